-- What is made of each of the numbers of transactions.
use Rattle.lab_engine.proofs.Common.{ap, arith, begun, length, length-map, List, map as each, map-append, numbers_from, Past, recorded_txn, recorded_txns, refl, slice_get, Some, suc, sym, zero, [], ℕ, ◌++◌, ◌+◌, ◌-◌, ◌<◌, ◌∙◌, ◌∷◌, ◌≡◌, ◌≤◌}

-- one more number
pub numbers_more : (first count : ℕ) → numbers_from first (suc count) ≡ numbers_from first count ++ (first + count) ∷ []
numbers_more first zero = ap (λ n. n ∷ []) (omega arith)
numbers_more first (suc count) = ap (λ ns. first ∷ ns) (numbers_more (suc first) count ∙ ap (λ n. numbers_from (suc first) count ++ n ∷ []) (omega arith))

-- what is made of the numbers so far, and of the next one
pub each_next : {A : Type 0} (f : ℕ → A) (n own : ℕ) (x : A) (xs ys : List A) → xs ≡ each f (numbers_from 1 (n - 1)) → 1 ≤ n → ys ≡ xs ++ x ∷ [] → x ≡ f own → own ≡ n
    → ys ≡ each f (numbers_from 1 (n + 1 - 1))
each_next f n own x xs ys so_far low is made same =
    let place : own ≡ 1 + (n - 1) = omega (arith, low, same) in
    let more : suc (n - 1) ≡ n + 1 - 1 = omega arith in
    is ∙ (λ i. so_far i ++ (made ∙ ap f place) i ∷ [])
    ∙ sym (map-append f (numbers_from 1 (n - 1)) ((1 + (n - 1)) ∷ []))
    ∙ ap (each f) (sym (numbers_more 1 (n - 1)) ∙ ap (numbers_from 1) more)

-- the number at a place
pub at_number : {A : Type 0} (f : ℕ → A) (first count n : ℕ) → n < count → slice_get (each f (numbers_from first count)) n ≡ Some (f (first + n))
at_number f first zero n few = absurd (omega arith)
at_number f first (suc count) zero few = ap (λ k. Some (f k)) (omega arith)
at_number f first (suc count) (suc n) few = at_number f (suc first) count n (omega arith) ∙ ap (λ k. Some (f k)) (omega arith)

count_numbers : (first count : ℕ) → length (numbers_from first count) ≡ count
count_numbers first zero = refl
count_numbers first (suc count) = ap (λ n. suc n) (count_numbers (suc first) count)

-- a recording has as many transactions as began
pub recorded_length : (past : Past) → length (recorded_txns past) ≡ begun past
recorded_length past = length-map (numbers_from 1 (begun past)) (recorded_txn past) ∙ count_numbers 1 (begun past)
