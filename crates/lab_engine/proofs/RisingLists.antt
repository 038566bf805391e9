-- Lists that are alike in what they hold.
use Rattle.lab_engine.proofs.Common.{AllPairs, ap, append_assoc, arith, Contains, length, length-append, List, refl, reverse, reverse-append, subst, suc, sym, zero, [], ℕ, ◌++◌, ◌<◌, ◌∙◌, ◌∷◌, ◌≡◌, ◌≤◌, append_cancel_right}
use Rattle.lab_table.proofs.Members.{no_member}

-- the first of a rising list is below the others
first_below : (x : ℕ) (xs : List ℕ) (k : ℕ) → AllPairs (λ a b. a < b) (x ∷ xs) → Contains xs k → x < k
first_below x xs k pairs (i, lt, is) = subst (λ v. x < v) is (pairs 0 (suc i) k (omega arith) (omega arith))

-- the others rise
others_rise : (x : ℕ) (xs : List ℕ) → AllPairs (λ a b. a < b) (x ∷ xs) → AllPairs (λ a b. a < b) xs
others_rise x xs pairs i j d less lt = pairs (suc i) (suc j) d (omega (arith, less)) (omega (arith, lt))

-- what is in a list and isn't its first is among the others
behind : (x : ℕ) (xs : List ℕ) (k : ℕ) → x < k → Contains (x ∷ xs) k → Contains xs k
behind x xs k less (zero, lt, is) = absurd (omega (arith, less, is))
behind x xs k less (suc i, lt, is) = (i, omega (arith, lt), is)

-- of two lists that hold the same the first of the one isn't below the first of the other
not_below : (x y : ℕ) (xs ys : List ℕ) → AllPairs (λ a b. a < b) (y ∷ ys) → Contains (y ∷ ys) x → y ≤ x
not_below x y xs ys rise (zero, lt, is) = omega (arith, is)
not_below x y xs ys rise (suc i, lt, is) = omega (arith, first_below y ys x rise (i, omega (arith, lt), is))

-- two rising lists that hold the same numbers are one
pub same_pairs : (xs ys : List ℕ) → AllPairs (λ a b. a < b) xs → AllPairs (λ a b. a < b) ys → ((k : ℕ) → Contains xs k → Contains ys k) → ((k : ℕ) → Contains ys k → Contains xs k) → xs ≡ ys
same_pairs [] [] h k to from = refl
same_pairs [] (y ∷ ys) h k to from = absurd (no_member y (from y (0, omega arith, refl)))
same_pairs (x ∷ xs) [] h k to from = absurd (no_member x (to x (0, omega arith, refl)))
same_pairs (x ∷ xs) (y ∷ ys) h k to from = ap (λ v. v ∷ xs) same ∙ ap (λ vs. y ∷ vs) (same_pairs xs ys (others_rise x xs h) (others_rise y ys k) those back)
  where
    same : x ≡ y
    same = omega (arith, not_below x y xs ys k (to x (0, omega arith, refl)), not_below y x ys xs h (from y (0, omega arith, refl)))

    those : (n : ℕ) → Contains xs n → Contains ys n
    those n c = behind y ys n (subst (λ v. v < n) same (first_below x xs n h c)) (to n (suc c.0, omega (arith, c.1), c.2))

    back : (n : ℕ) → Contains ys n → Contains xs n
    back n c = behind x xs n (subst (λ v. v < n) (sym same) (first_below y ys n k c)) (from n (suc c.0, omega (arith, c.1), c.2))

-- what stands right before the same end of one list is one
pub before_end : {A : Type 0} (xs ys : List A) (x y : A) (end : List A) → xs ++ x ∷ end ≡ ys ++ y ∷ end → x ≡ y
before_end xs ys x y end same =
    let fronts : xs ++ x ∷ [] ≡ ys ++ y ∷ [] = append_cancel_right (xs ++ x ∷ []) (ys ++ y ∷ []) end (append_assoc xs (x ∷ []) end ∙ same ∙ sym (append_assoc ys (y ∷ []) end)) in
    let turned : x ∷ reverse xs ≡ y ∷ reverse ys = sym (reverse-append xs (x ∷ [])) ∙ ap reverse fronts ∙ reverse-append ys (y ∷ []) in
    cc

-- nothing stands before the whole of a list
pub none_before : {A : Type 0} (xs : List A) (x : A) (end : List A) → end ≡ xs ++ x ∷ end → ⊥
none_before xs x end same = omega (arith, ap length same, length-append xs (x ∷ end))
