-- Rising numbers: each comes once, and as many are below it as stand before it.
use Rattle.std.proofs.{Common.{◌≡◌, ℕ, zero, suc, ◌+◌, ◌<◌, ◌≤◌, Some, List, [], ◌∷◌, cond, length, get_or, nat_lt, slice_index, refl, ap, ◌∙◌, arith, inl, inr}, lemmas.{Bool.{cases_order, le-ltb, lt-ltb, Decides.{nat_tests}}, Map.Keys.{below_from_sorted, non_decreasing_from_sorted, sorted_from_strictly_increasing, sorted_tail}, Option.{none-some, same_Some, slice_get-get_or, slice_get_within, get_or_from_slice_get}}}
use Rattle.std.specs.{Prelude.{slice_get, Contains}, List.Sorted.{IsStrictlyIncreasing, IsStrictlySortedBy}, Ordering.{nat_cmp}}
use Rattle.lab_deps.proofs.Places.{times, at_times, placed, at_most_once as once_of_places}

-- what a list contains stands in it
pub contained : (ns : List ℕ) (n : ℕ) → Contains ns n → 1 ≤ times n ns
contained ns n (k, lt, e) = at_times ns k n (slice_get-get_or ns k n lt ∙ ap Some e)

-- and what stands in it, it contains
pub contains_it : (ns : List ℕ) (n : ℕ) → 1 ≤ times n ns → Contains ns n
contains_it ns n h = let p = placed ns n h in (p.0, slice_get_within ns p.0 n p.2, get_or_from_slice_get ns p.0 n n p.2)

-- what stands at a place of a list
pub read : (ns : List ℕ) (a n : ℕ) → slice_get ns a ≡ Some n → slice_index ns a ≡ n
read ns a n h = get_or_from_slice_get ns a n 0 h

module _ (ns : List ℕ) (up : IsStrictlyIncreasing ns) where
  -- no number is at a later place too
  apart : (p q n : ℕ) → slice_get ns p ≡ Some n → slice_get ns q ≡ Some n → p < q → ⊥
  apart p q n h k l =
      let rise = below_from_sorted ns p q 0 (sorted_from_strictly_increasing ns up) l (slice_get_within ns q n k) in
      omega (arith, rise, read ns p n h, read ns q n k)

  -- equal numbers have one place
  pub one_place : (p q n : ℕ) → slice_get ns p ≡ Some n → slice_get ns q ≡ Some n → p ≡ q
  one_place p q n h k = elim (cases_order p q) [ inl same ↦ same | inr (inl l) ↦ absurd (apart p q n h k l) | inr (inr l) ↦ absurd (apart q p n k h l) ]

  pub at_most_once : (n : ℕ) → times n ns ≤ 1
  at_most_once n = once_of_places ns n (λ p q h k. one_place p q n h k)

-- how many of a list are below a number
abbrev pub below : ℕ → List ℕ → ℕ
below n [] = 0
below n (x ∷ xs) = cond (nat_lt x n) (1 + below n xs) (below n xs)

pub below_none : (ns : List ℕ) → below 0 ns ≡ 0
below_none [] = refl
below_none (x ∷ xs) = ap (λ b. cond b (1 + below 0 xs) (below 0 xs)) (le-ltb x 0 (omega arith)) ∙ below_none xs

pub below_next : (n : ℕ) (ns : List ℕ) → below (suc n) ns ≡ below n ns + times n ns
below_next n [] = refl
below_next n (x ∷ xs) = let rest = below_next n xs in grind (arith, nat_tests)

-- none of those that are no less is below a number
none_below : (n : ℕ) (ms : List ℕ) → ((k : ℕ) → k < length ms → n ≤ get_or ms k 0) → below n ms ≡ 0
none_below n [] all = refl
none_below n (m ∷ ms) all = ap (λ b. cond b (1 + below n ms) (below n ms)) (le-ltb m n (all 0 (omega arith))) ∙ none_below n ms (λ k lt. all (suc k) (omega (arith, lt)))

-- below one of rising numbers are those before it
pub below_is : (ns : List ℕ) → IsStrictlySortedBy nat_cmp ns → (p n : ℕ) → slice_get ns p ≡ Some n → below n ns ≡ p
below_is [] up p n here = absurd (none-some n here)
below_is (m ∷ ms) up zero n here =
    none_below n (m ∷ ms) (λ k lt.
    let least : m ≤ get_or (m ∷ ms) k 0 = non_decreasing_from_sorted (m ∷ ms) up 0 k 0 (omega arith) lt in
    omega (arith, least, same_Some m n here))
below_is (m ∷ ms) up (suc p) n here =
    let rise : m < get_or (m ∷ ms) (suc p) 0 = below_from_sorted (m ∷ ms) 0 (suc p) 0 up (omega arith) (slice_get_within (m ∷ ms) (suc p) n here) in
    let is : get_or (m ∷ ms) (suc p) 0 ≡ n = get_or_from_slice_get (m ∷ ms) (suc p) n 0 here in
    let kept = ap {B = ℕ} (λ b. cond b (1 + below n ms) (below n ms)) (lt-ltb m n (omega (arith, rise, is))) in
    omega (arith, kept, below_is ms (sorted_tail nat_cmp m ms up) p n here)
