-- Numbers of the grammar are read.
use Rattle.lab_statement.proofs.Common.{◌≡◌, ℕ, zero, suc, ◌≤◌, Bool, cond, List, ◌∷◌, ◌++◌, refl, sym, ap, ◌∙◌, arith, ℤ, pos, negsuc, ◌-ℤ◌, le-leb, NumberOutOfRange, Token, IsNumber, Reads, Stops, digits_read, magnitude_read, number_read, positive_read}
use Rattle.std.proofs.Math.IntN.{pos-ne-negsuc, +ℤ_idl}
use Rattle.lab_statement.specs.declared.token.Token.TheVariants as token
use Rattle.lab_statement.specs.Grammar as grammar

pub magnitude_again : (n : ℕ) (rest : List Token) → n ≤ 1000000000 → magnitude_read (token.Digits n ∷ rest) ≡ Reads (n, rest)
unfolding magnitude_read digits_read
magnitude_again n rest le = ap (λ (b : Bool). cond b (Reads (n, rest)) (Stops NumberOutOfRange rest)) (le-leb n 1000000000 le)

pub number_again : {ts : List Token} {z : ℤ} → IsNumber ts z → (rest : List Token) → number_read (ts ++ rest) ≡ Reads (z, rest)
unfolding number_read
number_again (grammar.positive n le) rest = rw (magnitude_again n rest le) refl
number_again (grammar.negative n le) rest = rw (magnitude_again n rest le) refl

-- what a minus stands before isn't positive
not_negative : (n m : ℕ) → pos 0 -ℤ pos n ≡ pos m → 1 ≤ m → ⊥
not_negative zero m is low = let none : 0 ≡ m = cc in omega (arith, none, low)
not_negative (suc n) m is low = pos-ne-negsuc m n (sym is ∙ +ℤ_idl (negsuc n))

unsigned_again : {ts : List Token} (z : ℤ) (most m : ℕ) → IsNumber ts z → z ≡ pos m → 1 ≤ m → m ≤ most → (rest : List Token) → positive_read most (ts ++ rest) ≡ Reads (m, rest)
unfolding positive_read digits_read
unsigned_again _ most m (grammar.positive n le) is low high rest =
    let same : n ≡ m = cc in
    rw (same, le-leb 1 m low, le-leb m most high) refl
unsigned_again _ most m (grammar.negative n le) is low high rest = absurd (not_negative n m is low)

-- a number of the grammar from 1 on is read, whatever follows it
pub positive_again : {ts : List Token} (most m : ℕ) → IsNumber ts (pos m) → 1 ≤ m → m ≤ most → (rest : List Token) → positive_read most (ts ++ rest) ≡ Reads (m, rest)
positive_again most m number low high rest = unsigned_again (pos m) most m number refl low high rest
