-- A row beyond the last one of a sorted list isn't found in it.
use Rattle.std.{proofs.{Common.{◌≡◌, ℕ, ◌-◌, ◌<◌, true, T, Some, None, List, length, ap, ◌∙◌, arith}, lemmas.Option.{get_or_from_slice_get, slice_get_within}}, specs.{Prelude.{slice_get, slice_index_or}, FinMap.{find, is_sorted}}}
use Rattle.lab_table.{specs.{Row.{Row, row_cmp}, Running.{comes_after}}, proofs.Searching.{parted, point_is, found_nothing}}

module _ {V : Type 0} (row : Row) (es : List (Row × V)) (last : Row × V) (sorted : T (is_sorted row_cmp es)) (g : slice_get es (length es - 1) ≡ Some last) (after : comes_after row last ≡ true) where
  at_last : (d : Row × V) → comes_after row (slice_index_or es (length es - 1) d) ≡ true
  at_last d = ap (comes_after row) (get_or_from_slice_get es (length es - 1) last d g) ∙ after

  all_before : (k : ℕ) (d : Row × V) → k < length es → comes_after row (slice_index_or es k d) ≡ true
  all_before k d low = parted row es sorted k (length es - 1) d (omega arith) (slice_get_within es (length es - 1) last g) (at_last d)

  pub beyond : find row_cmp row es ≡ None
  beyond =
      found_nothing row es (length es) sorted (point_is (comes_after row) es (length es) (omega arith) ((λ k d low high. all_before k d high), (λ k d low high. absurd (omega arith)))) (omega arith)
