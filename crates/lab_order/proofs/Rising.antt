-- Numbers each of which is below the next.
use Rattle.std.proofs.Common.{ℕ, ◌+◌, ◌-◌, ◌<◌, ◌≤◌, ◌≡◌, inl, inr, Some, Err, ap, sym, ◌∙◌, subst, arith, List, [], ◌∷◌, ◌++◌, length, get_or}
use Rattle.std.specs.{List.{All, insert, slice_get, Sorted.{IsBinarySearchResult, IsStrictlyIncreasing}}, Ordering.{nat_cmp}}
use Rattle.std.proofs.lemmas.Bool.{cases_lt}
use Rattle.std.proofs.lemmas.List.{get_or_default}
use Rattle.std.proofs.lemmas.Option.{get_or_from_slice_get}
use Rattle.std.proofs.lemmas.List.Kept.{AllPairs-from_increasing}
use Rattle.std.proofs.lemmas.List.Quantifiers.{all_pairs_push}
use Rattle.std.proofs.lemmas.List.Sorted.{searched}
use Rattle.std.proofs.lemmas.Map.Keys.{non_decreasing_from_sorted, sorted_from_strictly_increasing}
use Rattle.std.proofs.lemmas.List.Edits.{length-insert, get_or-insert_below, get_or-insert_at, get_or-insert_above}
use Rattle.lab_order.specs.Arrows.{Arrows, IsGraph}

module _ (xs : List ℕ) (i y : ℕ) (rising : IsStrictlyIncreasing xs) (le : i ≤ length xs) where
  -- a number put in behind those that are less, before those that are greater
  pub put_between : ((k : ℕ) → k < i → get_or xs k 0 < y) → ((k : ℕ) → i ≤ k → k < length xs → y < get_or xs k 0) → IsStrictlyIncreasing (insert xs i y)
  put_between low high k lt =
      let long = length-insert xs i y le in
      let here = get_or-insert_at xs i y 0 le in
      elim (cases_lt k i) [
        | inl less ↦ elim (cases_lt (k + 1) i) [
          | inl next ↦ omega (arith, get_or-insert_below xs i y 0 k less le, get_or-insert_below xs i y 0 (k + 1) next le, rising k (omega (arith, next, le)))
          | inr at ↦ let place : k + 1 ≡ i = omega (arith, less, at) in omega (arith, get_or-insert_below xs i y 0 k less le, ap (λ n. get_or (insert xs i y) n 0) place, here, low k less)
        ]
        | inr more ↦ elim (cases_lt i k) [
          | inl behind ↦
              let place : k - 1 + 1 ≡ k = omega (arith, behind) in
              let within : k - 1 + 1 < length xs = omega (arith, behind, lt, long) in
              omega (arith, ap (λ n. get_or (insert xs i y) n 0) place, get_or-insert_above xs i y 0 (k - 1) (omega (arith, behind)) le, get_or-insert_above xs i y 0 k more le, ap (λ n. get_or xs n 0) place, rising (k - 1) within)
          | inr at ↦
              let place : k ≡ i = omega (arith, more, at) in
              omega (arith, ap (λ n. get_or (insert xs i y) n 0) place, here, get_or-insert_above xs i y 0 k more le, high k more (omega (arith, lt, long)))
        ]
      ]

-- a number put in where a search for it ended
pub put_where_due : (xs shown : List ℕ) (y place : ℕ) → IsStrictlyIncreasing xs → shown ≡ xs → IsBinarySearchResult (λ n. nat_cmp n y) shown (Err place) → IsStrictlyIncreasing (insert xs place y)
put_where_due xs shown y place rising same found =
    let point : IsBinarySearchResult (λ n. nat_cmp n y) xs (Err place) = subst (λ ns. IsBinarySearchResult (λ n. nat_cmp n y) ns (Err place)) same found in
    let between : (place ≤ length xs) × ((k : ℕ) → k < place → get_or xs k 0 < y) × ((k : ℕ) → place ≤ k → k < length xs → y < get_or xs k 0)
    = searched xs y (Err place) point (λ i j le lt. non_decreasing_from_sorted xs (sorted_from_strictly_increasing xs rising) i j 0 le lt) in
    put_between xs place y rising between.0 between.1 between.2

-- where the last is less than a number, all are
pub below_last : (xs : List ℕ) (last y : ℕ) → IsStrictlyIncreasing xs → slice_get xs (length xs - 1) ≡ Some last → last < y → All (λ n. n < y) xs
below_last xs last y rising is less k d lt =
    let at : get_or xs (length xs - 1) d ≡ last = get_or_from_slice_get xs (length xs - 1) last d is in
    elim (cases_lt k (length xs - 1)) [
      | inl before ↦ let pairs = AllPairs-from_increasing xs rising k (length xs - 1) d before (omega (arith, lt)) in omega (arith, pairs, at, less)
      | inr more ↦ let place : k ≡ length xs - 1 = omega (arith, lt, more) in omega (arith, at, less, ap (λ n. get_or xs n d) place)
    ]

-- a number put behind those that are less
pub put_last : (xs : List ℕ) (y : ℕ) → IsStrictlyIncreasing xs → All (λ n. n < y) xs → IsStrictlyIncreasing (xs ++ y ∷ [])
put_last xs y rising low k lt = all_pairs_push (λ a b. a < b) xs y (AllPairs-from_increasing xs rising) low k (k + 1) 0 (omega arith) lt

-- the nodes before a node rise
pub row_rises : (graph : Arrows) (node : ℕ) (row : List ℕ) → IsGraph graph → node < length graph → row ≡ get_or graph node row → IsStrictlyIncreasing row
row_rises graph node row is_graph lt is = subst IsStrictlyIncreasing (sym (is ∙ sym (get_or_default graph node [] row lt))) (is_graph.rising node)
