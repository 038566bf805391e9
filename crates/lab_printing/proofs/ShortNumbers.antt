-- How long printed numbers are.
use Rattle.lab_printing.proofs.Common.{ℕ, ◌<◌, ◌≤◌, length, arith, decimal, length-decimal-le}

-- a printed number of 64 bits has at most 20 digits
pub decimal_short : (n : ℕ) → n < 18446744073709551616 → length (decimal n) ≤ 20
decimal_short n lt = length-decimal-le 20 n (omega arith) (omega (arith, lt)) lt
