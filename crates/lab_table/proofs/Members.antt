-- Members of lists.
use Rattle.std.{proofs.{Common.{◌≡◌, ℕ, zero, suc, List, [], ◌∷◌, Some, refl, ap, ◌∙◌, arith}, lemmas.{List.Elements.{Contains-append_right}, Option.{slice_get_within, slice_get-get_or, get_or_from_slice_get}}}, specs.Prelude.{Contains, slice_get}}

module _ {X : Type 0} where
  pub no_member : (x : X) → Contains [] x → ⊥
  no_member x (k, l, e) = omega (arith, l)

  pub first_member : (x : X) (xs : List X) → Contains (x ∷ xs) x
  first_member x xs = (0, omega arith, refl)

  pub later_member : (y : X) (xs : List X) (x : X) → Contains xs x → Contains (y ∷ xs) x
  later_member y xs x h = Contains-append_right (y ∷ []) xs x h

  pub only_member : (y x : X) → Contains (y ∷ []) x → y ≡ x
  only_member y x (zero, l, e) = e
  only_member y x (suc k, l, e) = absurd (omega (arith, l))

  -- what stands at a place is a member, and each member stands at one
  pub member_at : (xs : List X) (k : ℕ) (x : X) → slice_get xs k ≡ Some x → Contains xs x
  member_at xs k x e = (k, slice_get_within xs k x e, get_or_from_slice_get xs k x x e)

  pub place_of_member : (xs : List X) (x : X) → Contains xs x → (k : ℕ) × (slice_get xs k ≡ Some x)
  place_of_member xs x (k, l, e) = (k, slice_get-get_or xs k x l ∙ ap Some e)
