-- The greatest of some numbers, as a walk finds it.
use Rattle.std.{proofs.{Common.{◌≡◌, ◌⊎◌, inl, inr, ℕ, suc, ◌≤◌, refl, sym, subst, List, [], ◌∷◌, arith}, lemmas.{Bool.{cases_lt}, List.Elements.{All-nil, All-cons}}}, specs.{Prelude.{fold, max}, List.{All, Contains}}}
use Rattle.lab_commands.specs.Batching.{IsGreatest}

first : (x : ℕ) (xs : List ℕ) (n : ℕ) → n ≡ x → Contains (x ∷ xs) n
first x xs n is = (0, omega arith, omega (arith, is))

later : (x : ℕ) (xs : List ℕ) (n : ℕ) → Contains xs n → Contains (x ∷ xs) n
later x xs n (k, few, is) = (suc k, omega (arith, few), is)

module _ (a x : ℕ) (xs : List ℕ) (n : ℕ) where
  greater : n ≡ max a x → (n ≡ a) ⊎ Contains (x ∷ xs) n
  greater is = elim (cases_lt a x) [
    | inl less ↦ inr (first x xs n (omega (arith, is, less)))
    | inr more ↦ inl (omega (arith, is, more))
  ]

  met : (n ≡ max a x) ⊎ Contains xs n → (n ≡ a) ⊎ Contains (x ∷ xs) n
  met (inl is) = greater is
  met (inr contained) = inr (later x xs n contained)

folded : (a : ℕ) (xs : List ℕ) → (a ≤ fold max a xs) × All (λ n. n ≤ fold max a xs) xs × ((fold max a xs ≡ a) ⊎ Contains xs (fold max a xs))
folded a [] = (omega arith, All-nil _, inl refl)
folded a (x ∷ xs) =
    let rest = folded (max a x) xs in
    (omega (arith, rest.0), All-cons (λ n. n ≤ fold max (max a x) xs) x xs (omega (arith, rest.0)) rest.1, met a x xs (fold max (max a x) xs) rest.2)

pub folded_is_greatest : (xs : List ℕ) (n : ℕ) → n ≡ fold max 0 xs → IsGreatest xs n
folded_is_greatest xs n is =
    let bounds = folded 0 xs in
    subst (IsGreatest xs) (sym is) (record { most = bounds.1; met = bounds.2 })
