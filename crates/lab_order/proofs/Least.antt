-- The order of lists, thing by thing.
use Rattle.std.proofs.Common.{◌≡◌, ◌⊎◌, inl, inr, ℕ, subst, refl, ap, ◌∙◌, arith, List, [], ◌∷◌}
use Rattle.lab_order.specs.Least.{NotAfterBy, IsLeastBy, IsLess, NotAfter, IsLeast}

module _ {X : Type 0} (IsLower : X → X → Type 0) (never : (a b : X) → IsLower a b → IsLower b a → ⊥) where
  -- two lists of which neither comes after the other are one
  pub neither_after_by : (xs ys : List X) → NotAfterBy IsLower xs ys → NotAfterBy IsLower ys xs → xs ≡ ys
  neither_after_by [] [] h k = refl
  neither_after_by [] (y ∷ ys) h k = absurd k
  neither_after_by (x ∷ xs) [] h k = absurd h
  neither_after_by (x ∷ xs) (y ∷ ys) h k = at (neither_after_by xs ys) h k
    where
      at : (NotAfterBy IsLower xs ys → NotAfterBy IsLower ys xs → xs ≡ ys) → IsLower x y ⊎ ((x ≡ y) × NotAfterBy IsLower xs ys) → IsLower y x ⊎ ((y ≡ x) × NotAfterBy IsLower ys xs) → x ∷ xs ≡ y ∷ ys
      at rest (inl less) (inl more) = absurd (never x y less more)
      at rest (inl less) (inr (same, k)) = let own = subst (IsLower x) same less in absurd (never x x own own)
      at rest (inr (same, h)) (inl more) = let own = subst (IsLower y) same more in absurd (never y y own own)
      at rest (inr (same, h)) (inr (alike, k)) = ap (λ a. a ∷ xs) same ∙ ap (λ l. y ∷ l) (rest h k)

  -- there is one least
  pub one_least_by : (IsOne : List X → Type 0) (xs ys : List X) → IsLeastBy IsLower IsOne xs → IsLeastBy IsLower IsOne ys → xs ≡ ys
  one_least_by IsOne xs ys h k = neither_after_by xs ys (h.least ys k.is_one) (k.least xs h.is_one)

-- of two numbers one at most is less
pub not_both : (m n : ℕ) → IsLess m n → IsLess n m → ⊥
not_both m n less more = omega (arith, less, more)

pub neither_after : (ns ms : List ℕ) → NotAfter ns ms → NotAfter ms ns → ns ≡ ms
neither_after = neither_after_by IsLess not_both

pub one_least : (IsOne : List ℕ → Type 0) (ns ms : List ℕ) → IsLeast IsOne ns → IsLeast IsOne ms → ns ≡ ms
one_least = one_least_by IsLess not_both
