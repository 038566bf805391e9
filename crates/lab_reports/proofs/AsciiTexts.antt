-- Texts of ASCII.
use Rattle.std.{proofs.{Common.{◌≡◌, ◌<◌, ℕ, zero, suc, true, List, [], ◌∷◌, ◌++◌, arith}, lemmas.{Bool.{and_parts}, Str.Ascii.{IsAscii-cons}}}, specs.{Prelude.{IsAscii, nat_lt}, List.{list_all}}}

below : (b : ℕ) → nat_lt b 128 ≡ true → b < 128
below b h = grind arith

-- a text whose bytes pass the test
pub ascii_by : (text : List ℕ) → list_all (λ b. nat_lt b 128) text ≡ true → IsAscii text
ascii_by [] h i = omega arith
ascii_by (b ∷ text) h zero = below b (and_parts (nat_lt b 128) (list_all (λ b. nat_lt b 128) text) h).0
ascii_by (b ∷ text) h (suc i) = ascii_by text (and_parts (nat_lt b 128) (list_all (λ b. nat_lt b 128) text) h).1 i

-- one text behind another
pub joined : (a b : List ℕ) → IsAscii a → IsAscii b → IsAscii (a ++ b)
joined [] b p q = q
joined (c ∷ a) b p q = IsAscii-cons c (a ++ b) (p zero) (joined a b (λ i. p (suc i)) q)
