-- Rows of a table that are kept, and rows whose values are made anew.
use Rattle.std.proofs.Common.{◌≡◌, ℤ, Bool, true, false, cond, T, List, [], ◌∷◌, map, Some, refl, sym, ap, ◌∙◌}
use Rattle.std.specs.{Prelude.{filter, option_map}, Ordering.{is_lt}, FinMap.{find, is_sorted, from_entries, from_sorted, entries, get-from_entries, get-from_sorted, entries-from_sorted, entries_sorted, Entries.{below_all}}}
use Rattle.lab_table.{specs.{Row.{Row, row_cmp, row_eq, rows_total}, Table.{Table}, Statement.{selects, matching}, declared.statement.Statement.{Statement}}, proofs.{Maps.{same_row, same_rows}, Tests.{both, joined}}}

-- what is below all is below those that are kept
below-filter : (p : Row → ℤ → Bool) (x : Row) (es : List (Row × ℤ)) → T (below_all row_cmp x es) → T (below_all row_cmp x (filter (λ e. p e.0 e.1) es))
below-filter p x [] h = tt
below-filter p x (e ∷ es) h =
    let parts = both (is_lt (row_cmp x e.0)) (below_all row_cmp x es) h in
    let rest = below-filter p x es parts.1 in
    elim (p e.0 e.1) as (λ b. T (below_all row_cmp x (cond b (e ∷ filter (λ e. p e.0 e.1) es) (filter (λ e. p e.0 e.1) es)))) [
      | true ↦ joined _ _ parts.0 rest
      | false ↦ rest
    ]

-- those that are kept stay in order
pub sorted-filter : (p : Row → ℤ → Bool) (es : List (Row × ℤ)) → T (is_sorted row_cmp es) → T (is_sorted row_cmp (filter (λ e. p e.0 e.1) es))
sorted-filter p [] h = tt
sorted-filter p (e ∷ es) h =
    let parts = both (below_all row_cmp e.0 es) (is_sorted row_cmp es) h in
    let rest = sorted-filter p es parts.1 in
    elim (p e.0 e.1) as (λ b. T (is_sorted row_cmp (cond b (e ∷ filter (λ e. p e.0 e.1) es) (filter (λ e. p e.0 e.1) es)))) [
      | true ↦ joined _ _ (below-filter p e.0 es parts.0) rest
      | false ↦ rest
    ]

-- a row is found with the value that is made of its own
pub find-map_keyed : (f : Row × ℤ → ℤ) (q : Row) (es : List (Row × ℤ)) → find row_cmp q (map (λ e. (e.0, f e)) es) ≡ option_map (λ v. f (q, v)) (find row_cmp q es)
find-map_keyed f q [] = refl
find-map_keyed f q (e ∷ es) =
    elim (row_eq q e.0) as (λ t. row_eq q e.0 ≡ t → cond t (Some (f e)) (find row_cmp q (map (λ e. (e.0, f e)) es)) ≡ option_map (λ v. f (q, v)) (cond t (Some e.1) (find row_cmp q es))) [
      | true ↦ λ t. ap (λ k. Some (f (k, e.1))) (sym (same_row q e.0 t))
      | false ↦ λ t. find-map_keyed f q es
    ] refl

-- a sorted list is what the map made of it lists
entries-from_entries : (es : List (Row × ℤ)) → T (is_sorted row_cmp es) → entries (from_entries {R = row_cmp} es) ≡ es
entries-from_entries es h =
    ap entries (same_rows (from_entries es) (from_sorted es) (λ q. get-from_entries rows_total es q ∙ sym (get-from_sorted row_cmp es q h)))
    ∙ entries-from_sorted row_cmp es h

-- the rows that match are what the map of them lists
pub listed_entries : (s : Statement) (t : Table) → matching s t ≡ entries (from_entries {R = row_cmp} (matching s t))
listed_entries s t = sym (entries-from_entries (matching s t) (sorted-filter (selects s) (entries t) (entries_sorted t)))
