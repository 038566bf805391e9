-- What a set's keys pass once one more key is put in.
use Rattle.std.proofs.{Common.{◌≡◌, Bool, true, false, not, ◌||◌, List, [], ◌∷◌, refl, sym, ap, ◌∙◌}, lemmas.{Bool.{true≢false}, List.Sorted.{list_any-IsPermutation}}}
use Rattle.std.specs.{List.{list_any}, List.Sorted.{IsPermutation}, Bool.{MatchBool}, BTreeSet.{insert_key}, Ordering.{match_ordering}, declared.cmp.Ordering.{Ordering, TheVariants.{Less, Equal, Greater}}}
use Rattle.lab_conditions.proofs.Ors.{or_comm, or_assoc, or_again}

module _ {K : Type 0} (f : K → Bool) where
  module _ (eq : K → K → Bool) (same : (a b : K) → eq a b ≡ true → a ≡ b) where
    -- a key that is there adds nothing
    found : (k : K) (ks : List K) → list_any (eq k) ks ≡ true → list_any f ks ≡ (list_any f ks || f k)
    found k [] t = absurd (true≢false (sym t))
    found k (x ∷ xs) t = at (found k xs) (eq k x) refl (f x) refl
      where
        at : (list_any (eq k) xs ≡ true → list_any f xs ≡ (list_any f xs || f k)) → (b : Bool) → eq k x ≡ b → (fx : Bool) → f x ≡ fx → (f x || list_any f xs) ≡ ((f x || list_any f xs) || f k)
        at rest true q fx p = or_again (f x) (list_any f xs) ∙ ap (λ b. (f x || list_any f xs) || b) (ap f (sym (same k x q)))
        at rest false q true p = ap (λ b. b || list_any f xs) p ∙ sym (ap (λ b. (b || list_any f xs) || f k) p)
        at rest false q false p = ap (λ b. b || list_any f xs) p ∙ rest (sym (ap (λ b. b || list_any (eq k) xs) q) ∙ t) ∙ sym (ap (λ b. (b || list_any f xs) || f k) p)

    -- in a hash set
    pub any_put : (k : K) (old new : List K) (added : Bool) → added ≡ not (list_any (eq k) old) → MatchBool added (IsPermutation (k ∷ old) new) (new ≡ old) → list_any f new ≡ (list_any f old || f k)
    any_put k old new true is put = sym (list_any-IsPermutation f (k ∷ old) new put) ∙ or_comm (f k) (list_any f old)
    any_put k old new false is put = ap (list_any f) put ∙ found k old (there (list_any (eq k) old) is)
      where
        there : (b : Bool) → false ≡ not b → b ≡ true
        there true e = refl
        there false e = absurd (true≢false (sym e))

  -- in a tree
  module _ (cmp : K → K → Ordering) (apart : (a b : K) → cmp a b ≡ Equal → a ≡ b) where
    pub any_inserted : (k : K) (ks : List K) → list_any f (insert_key cmp ks k) ≡ (list_any f ks || f k)
    any_inserted k [] = or_comm (f k) false
    any_inserted k (x ∷ xs) = at (any_inserted k xs) (cmp k x) refl
      where
        at : list_any f (insert_key cmp xs k) ≡ (list_any f xs || f k) → (r : Ordering) → cmp k x ≡ r → list_any f (match_ordering r (k ∷ x ∷ xs) (x ∷ xs) (x ∷ insert_key cmp xs k)) ≡ ((f x || list_any f xs) || f k)
        at rest Less q = or_comm (f k) (f x || list_any f xs)
        at rest Equal q = or_again (f x) (list_any f xs) ∙ ap (λ b. (f x || list_any f xs) || b) (ap f (sym (apart k x q)))
        at rest Greater q = ap (λ b. f x || b) rest ∙ sym (or_assoc (f x) (list_any f xs) (f k))
