-- Counting in lists that are mapped or in another order, and the least of one.
use Rattle.std.proofs.{Common.{◌≡◌, ℕ, ◌+◌, ◌≤◌, arith, refl, sym, ap, ◌∙◌, Bool, cond, List, [], ◌∷◌, map}, lemmas.List.{Sums.{sum_by-cons}, Elements.{All-nil, All-cons}, Sorted.{sum_by-IsPermutation, le_from_greatest}}}
use Rattle.std.specs.{BinaryHeap.{IsUpperBound}, List.{All, count_by, Sorted.{IsPermutation}}, Ordering.{nat_cmp}}

module _ {X : Type 0} (f : X → ℕ) (test : ℕ → Bool) where
  -- counting after a map
  count_map : (xs : List X) → count_by test (map f xs) ≡ count_by (λ x. test (f x)) xs
  count_map [] = refl
  count_map (x ∷ xs) =
      let a : count_by test (f x ∷ map f xs) ≡ cond (test (f x)) 1 0 + count_by test (map f xs) = sum_by-cons (λ n. cond (test n) 1 0) (f x) (map f xs) in
      let b : count_by (λ y. test (f y)) (x ∷ xs) ≡ cond (test (f x)) 1 0 + count_by (λ y. test (f y)) xs = sum_by-cons (λ y. cond (test (f y)) 1 0) x xs in
      a ∙ ap (λ n. cond (test (f x)) 1 0 + n) (count_map xs) ∙ sym b

  -- one more than another list, in some order
  pub count_one_more : (x : X) (xs ys : List X) → IsPermutation (x ∷ xs) ys → count_by test (map f ys) ≡ cond (test (f x)) 1 0 + count_by test (map f xs)
  count_one_more x xs ys h =
      count_map ys ∙ sum_by-IsPermutation (λ y. cond (test (f y)) 1 0) (x ∷ xs) ys h ∙ sym (count_map (x ∷ xs))
      ∙ sum_by-cons (λ n. cond (test n) 1 0) (f x) (map f xs)

  -- and taken out again
  pub count_one_fewer : (x : X) (xs ys : List X) → IsPermutation ys (x ∷ xs) → count_by test (map f ys) ≡ cond (test (f x)) 1 0 + count_by test (map f xs)
  count_one_fewer x xs ys h =
      count_map ys ∙ sym (sum_by-IsPermutation (λ y. cond (test (f y)) 1 0) ys (x ∷ xs) h) ∙ sym (count_map (x ∷ xs))
      ∙ sum_by-cons (λ n. cond (test n) 1 0) (f x) (map f xs)

-- what comes first by the reversed order is the least
pub least_of : {X : Type 0} (f : X → ℕ) (x : X) (ys : List X) → IsUpperBound (λ a b. nat_cmp (f b) (f a)) x ys → All (λ n. f x ≤ n) (map f ys)
least_of f x [] h = All-nil (λ n. f x ≤ n)
least_of f x (y ∷ ys) h = All-cons (λ n. f x ≤ n) (f y) (map f ys) (le_from_greatest (f y) (f x ∷ []) (h.0, tt) 0 0 (omega arith)) (least_of f x ys h.1)
