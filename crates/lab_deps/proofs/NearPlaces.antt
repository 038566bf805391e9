-- A place at which a row stands in a sorted list, seen by the entries before and at it.
use Rattle.std.{proofs.{Common.{◌≡◌, ℕ, ◌-◌, ◌≤◌, ◌<◌, true, false, T, List, length, sym, ◌∙◌, arith}, lemmas.Bool.{false≢true, false_from_ne_true}}, specs.{Prelude.{slice_index_or}, List.{prefix_len}, FinMap.{is_sorted}}}
use Rattle.lab_table.{specs.{Row.{Row, row_cmp}, Running.{comes_after}}, proofs.Searching.{parted, point_is}}

module _ {V : Type 0} (row : Row) (es : List (Row × V)) (sorted : T (is_sorted row_cmp es)) (i : ℕ) (within : i ≤ length es) where
  -- where the row comes after the entry before, if there is one, and not after the one there, if there is one
  pub place_is : ((d : Row × V) → 0 < i → comes_after row (slice_index_or es (i - 1) d) ≡ true)
      → ((d : Row × V) → i < length es → comes_after row (slice_index_or es i d) ≡ false) → i ≡ prefix_len (comes_after row) es
  place_is front rest = point_is (comes_after row) es i within (below, from)
    where
      below : (k : ℕ) (d : Row × V) → 0 ≤ k → k < i → comes_after row (slice_index_or es k d) ≡ true
      below k d _ l = parted row es sorted k (i - 1) d (omega (arith, l)) (omega (arith, l, within)) (front d (omega (arith, l)))

      from : (k : ℕ) (d : Row × V) → i ≤ k → k < length es → comes_after row (slice_index_or es k d) ≡ false
      from k d le l =
          false_from_ne_true _ (λ after. false≢true (sym (rest d (omega (arith, le, l))) ∙ parted row es sorted i k d le l after))
