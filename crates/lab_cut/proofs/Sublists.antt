-- Lists whose members stand for some of another list.
use Rattle.std.{proofs.{Common.{◌≡◌, inl, inr, ℕ, zero, suc, Bool, true, false, cond, List, [], ◌∷◌, map, Some, refl, ◌∙◌, subst}, lemmas.Option.{same_Some, none-some}}, specs.Prelude.{Contains, filter, slice_get}}
use Rattle.lab_table.proofs.Members.{first_member, later_member}
use Rattle.lab_cut.specs.PartOf.{IsSublistBy, IsSublist}

module _ {A B : Type 0} (R : A → B → Type 0) where
  -- one more that nothing stands for
  pub skipped : (y : B) (ys : List B) (xs : List A) → IsSublistBy R xs ys → IsSublistBy R xs (y ∷ ys)
  skipped y ys [] h = tt
  skipped y ys (x ∷ xs) h = inr h

  -- each member stands for one
  pub stands_for : (ys : List B) (xs : List A) (k : ℕ) (x : A) → IsSublistBy R xs ys → slice_get xs k ≡ Some x → (y : B) × Contains ys y × R x y
  stands_for ys [] k x h e = absurd (none-some x e)
  stands_for [] (z ∷ xs) k x h e = absurd h
  stands_for (y ∷ ys) (z ∷ xs) zero x (inl (r, rest)) e = (y, first_member y ys, subst (λ a. R a y) (same_Some z x e) r)
  stands_for (y ∷ ys) (z ∷ xs) (suc k) x (inl (r, rest)) e =
      let found = stands_for ys xs k x rest e in
      (found.0, later_member y ys found.0 found.1, found.2)
  stands_for (y ∷ ys) (z ∷ xs) k x (inr rest) e =
      let found = stands_for ys (z ∷ xs) k x rest e in
      (found.0, later_member y ys found.0 found.1, found.2)

  -- each member of a list stands for the one that it is made of
  pub made_of : (f : B → A) → ((y : B) → R (f y) y) → (ys : List B) → IsSublistBy R (map f ys) ys
  made_of f each [] = tt
  made_of f each (y ∷ ys) = inl (each y, made_of f each ys)

module _ {A B C : Type 0} (R : A → B → Type 0) (S : B → C → Type 0) (Q : A → C → Type 0) (join : (x : A) (y : B) (z : C) → R x y → S y z → Q x z) where
  -- what stands for some that stand for some
  pub through : (zs : List C) (ys : List B) (xs : List A) → IsSublistBy R xs ys → IsSublistBy S ys zs → IsSublistBy Q xs zs
  through zs ys [] p q = tt
  through zs [] (x ∷ xs) p q = absurd p
  through [] (y ∷ ys) (x ∷ xs) p q = absurd q
  through (z ∷ zs) (y ∷ ys) (x ∷ xs) (inl (r, more)) (inl (s, rest)) = inl (join x y z r s, through zs ys xs more rest)
  through (z ∷ zs) (y ∷ ys) (x ∷ xs) (inr more) (inl (s, rest)) = inr (through zs ys (x ∷ xs) more rest)
  through (z ∷ zs) (y ∷ ys) (x ∷ xs) p (inr rest) = inr (through zs (y ∷ ys) (x ∷ xs) p rest)

module _ {A : Type 0} where
  -- a list and itself
  pub whole_list : (xs : List A) → IsSublist xs xs
  whole_list [] = tt
  whole_list (x ∷ xs) = inl (refl, whole_list xs)

  -- nothing
  pub no_member_of : (ys : List A) → IsSublist [] ys
  no_member_of ys = tt

  -- those that pass a test
  pub passing : (test : A → Bool) (xs : List A) → IsSublist (filter test xs) xs
  passing test [] = tt
  passing test (x ∷ xs) =
      let rest = passing test xs in
      elim (test x) as (λ b. IsSublist (cond b (x ∷ filter test xs) (filter test xs)) (x ∷ xs)) [
        | true ↦ inl (refl, rest)
        | false ↦ skipped (λ a b. a ≡ b) x xs (filter test xs) rest
      ]

  -- sublists of sublists
  pub of_sublist : (xs ys zs : List A) → IsSublist xs ys → IsSublist ys zs → IsSublist xs zs
  of_sublist xs ys zs p q = through (λ a b. a ≡ b) (λ a b. a ≡ b) (λ a b. a ≡ b) (λ x y z d e. d ∙ e) zs ys xs p q
