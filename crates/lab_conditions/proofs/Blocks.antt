-- Blocks of equal size: numbers between two numbers of one block are in that block.
use Rattle.std.proofs.{Common.{◌≡◌, ◌≤◌, ◌<◌, ◌/◌, ◌≤ℤ◌, ℕ, suc, ℤ, pos, negsuc, int_div, arith}, Math.Nat.{div-mul-le_self, le_trans}, lemmas.{Nat.{le-div}, Int.{ints}}}

div_mono : (d a b : ℕ) → 0 < d → a ≤ b → a / d ≤ b / d
div_mono d a b some le = le-div (a / d) b d some (le_trans (div-mul-le_self a d) le)

int_div_mono : (d : ℕ) (a b : ℤ) → 0 < d → a ≤ℤ b → int_div a (pos d) ≤ℤ int_div b (pos d)
int_div_mono d (pos a) (pos b) some le = let m = div_mono d a b some (omega (arith, ints, le)) in omega (arith, ints, m)
int_div_mono d (pos a) (negsuc b) some le = absurd (omega (arith, ints, le))
int_div_mono d (negsuc a) (pos b) some le = omega (arith, ints)
int_div_mono d (negsuc a) (negsuc b) some le = let m = div_mono d (suc b) (suc a) some (omega (arith, ints, le)) in omega (arith, ints, m)

pub between : (d : ℕ) (low value high : ℤ) → 0 < d → low ≤ℤ value → value ≤ℤ high → int_div low (pos d) ≡ int_div high (pos d) → int_div value (pos d) ≡ int_div low (pos d)
between d low value high some above below same =
    let least = int_div_mono d low value some above in
    let most = int_div_mono d value high some below in
    omega (arith, ints, least, most, same)
