-- What stands below the rows of a list.
use Rattle.std.{proofs.Common.{◌≡◌, ℕ, zero, suc, ◌<◌, ◌&&◌, T, List, [], ◌∷◌, map, length, sym, subst, arith}, specs.{Prelude.{slice_index_or}, Ordering.{is_lt}, declared.cmp.Ordering.TheVariants.{Less}, FinMap.{is_sorted, Entries.{below_all}}}}
use Rattle.lab_table.{specs.Row.{Row, row_cmp, rows_total}, proofs.{Orderings.{is_less}, Tests.{both, joined}}}

module _ {V : Type 0} where
  -- what is below all is below each
  pub below_at : (x : Row) (es : List (Row × V)) (k : ℕ) (d : Row × V) → T (below_all row_cmp x es) → k < length es → row_cmp x (slice_index_or es k d).0 ≡ Less
  below_at x [] k d h lt = absurd (omega arith)
  below_at x (e ∷ es) zero d h lt = is_less _ (both (is_lt (row_cmp x e.0)) (below_all row_cmp x es) h).0
  below_at x (e ∷ es) (suc k) d h lt = below_at x es k d (both (is_lt (row_cmp x e.0)) (below_all row_cmp x es) h).1 (omega arith)

  -- what is below one that is below all is below all
  pub lower : (id x : Row) (es : List (Row × V)) → row_cmp id x ≡ Less → T (below_all row_cmp x es) → T (below_all row_cmp id es)
  lower id x [] l b = tt
  lower id x (e ∷ es) l b =
      let bs = both (is_lt (row_cmp x e.0)) (below_all row_cmp x es) b in
      subst (λ r. T (is_lt r && below_all row_cmp id es)) (sym (rows_total.trans id x e.0 l (is_less _ bs.0))) (lower id x es l bs.1)

module _ {A B : Type 0} (f : Row × A → B) where
  -- new values under the old keys
  pub below-map : (x : Row) (es : List (Row × A)) → T (below_all row_cmp x es) → T (below_all row_cmp x (map (λ (e : Row × A). (e.0, f e)) es))
  below-map x [] h = tt
  below-map x (e ∷ es) h =
      let parts = both (is_lt (row_cmp x e.0)) (below_all row_cmp x es) h in
      joined _ _ parts.0 (below-map x es parts.1)

  -- new values under the old keys stay in order
  pub sorted-map : (es : List (Row × A)) → T (is_sorted row_cmp es) → T (is_sorted row_cmp (map (λ (e : Row × A). (e.0, f e)) es))
  sorted-map [] h = tt
  sorted-map (e ∷ es) h =
      let parts = both (below_all row_cmp e.0 es) (is_sorted row_cmp es) h in
      joined _ _ (below-map e.0 es parts.0) (sorted-map es parts.1)
