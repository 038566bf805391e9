-- What stands behind the front of a list.
use Rattle.std.{proofs.Common.{◌≡◌, ℕ, zero, suc, List, [], ◌∷◌, drop, length, refl, sym, ◌∙◌}, specs.Prelude.{min}}
use native.Mathlib.Numerals.{unary_clauses}

-- an empty list has nothing to drop
drop_none : (n : ℕ) → drop {A = ℕ} n [] ≡ []
drop_none zero = refl
drop_none (suc n) = refl

-- a list has no more to drop than it has
pub behind_front : (xs : List ℕ) (n : ℕ) → drop (min (length xs) n) xs ≡ drop n xs
behind_front [] n = drop_none (min 0 n) ∙ sym (drop_none n)
behind_front (x ∷ xs) zero = simp unary_clauses refl
behind_front (x ∷ xs) (suc n) = simp unary_clauses (behind_front xs n)
