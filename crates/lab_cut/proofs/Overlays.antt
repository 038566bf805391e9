-- Tables with new states of their rows.
use Rattle.std.{proofs.Common.{◌≡◌, ℤ, Bool, true, false, cond, T, List, [], ◌∷◌, Option, Some, None, refl, sym, ap, ◌∙◌, subst}, specs.{Prelude.{option_and_then}, FinMap.{find, is_sorted, Entries.{below_all}}}}
use Rattle.std.specs.FinMap as map
use Rattle.lab_table.{specs.{Row.{Row, row_cmp, row_eq, rows_total}, Table.{State, Table, Writes, overwritten}}, proofs.{Maps.{same_row, same_rows, find_below, state_after, get-overwritten}, Tests.{both}}}
use Rattle.lab_cut.{specs.Overlaid.{new_value, kept_rows, with_present, put_present}, proofs.MadeEntries.{made_sorted, find_made}}

-- the present state where there is one, else the old one
abbrev present_or : Option State → State → State
present_or None old = old
present_or (Some None) old = old
present_or (Some (Some value)) old = Some value

-- one row
get-with_present : (rows : Table) (row : Row) (state : State) (q : Row) → map.get (with_present rows row state) q ≡ cond (row_eq q row) (present_or (Some state) (map.get rows q)) (map.get rows q)
get-with_present rows row None q = either (row_eq q row)
  where
    either : (b : Bool) → map.get rows q ≡ cond b (map.get rows q) (map.get rows q)
    either true = refl
    either false = refl
get-with_present rows row (Some value) q = map.get-insert rows_total rows row value q

-- all rows of a list
get-put_present : (rows : Table) (es : List (Row × State)) (q : Row) → T (is_sorted row_cmp es) → map.get (put_present rows es) q ≡ present_or (find row_cmp q es) (map.get rows q)
get-put_present rows [] q h = refl
get-put_present rows (e ∷ es) q h =
    let parts = both (below_all row_cmp e.0 es) (is_sorted row_cmp es) h in
    get-put_present (with_present rows e.0 e.1) es q parts.1
    ∙ ap (present_or (find row_cmp q es)) (get-with_present rows e.0 e.1 q)
    ∙ at parts.0 (row_eq q e.0) refl
  where
    at : T (below_all row_cmp e.0 es) → (b : Bool) → row_eq q e.0 ≡ b
        → present_or (find row_cmp q es) (cond b (present_or (Some e.1) (map.get rows q)) (map.get rows q)) ≡ present_or (cond b (Some e.1) (find row_cmp q es)) (map.get rows q)
    at below true own =
        let same : q ≡ e.0 = same_row q e.0 own in
        ap (λ o. present_or o (present_or (Some e.1) (map.get rows q))) (find_below q es (subst (λ x. T (below_all row_cmp x es)) (sym same) below))
    at below false apart = refl

-- the rows that were present, and then those that are
either_way : (new : Option State) (old : State) → present_or new (option_and_then (new_value new) old) ≡ state_after new old
either_way None None = refl
either_way None (Some value) = refl
either_way (Some None) None = refl
either_way (Some None) (Some value) = refl
either_way (Some (Some new)) old = refl

-- the rows that are kept are sorted
pub kept_sorted : (states : Writes) (es : List (Row × ℤ)) → T (is_sorted row_cmp es) → T (is_sorted row_cmp (kept_rows states es))
kept_sorted states es h = made_sorted (λ row old. new_value (map.get states row) old) es h

-- a table with those rows is the one with the new states
pub overlaid : (states : Writes) (table : Table) → put_present (map.from_sorted (kept_rows states (map.entries table))) (map.entries states) ≡ overwritten states table
overlaid states table = same_rows _ _ (λ q.
    let make = λ (row : Row) (old : ℤ). new_value (map.get states row) old in
    let sorted = map.entries_sorted table in
    get-put_present (map.from_sorted (kept_rows states (map.entries table))) (map.entries states) q (map.entries_sorted states)
    ∙ ap (λ o. present_or o (map.get (map.from_sorted {R = row_cmp} (kept_rows states (map.entries table))) q)) (sym (map.get-entries states q))
    ∙ ap (present_or (map.get states q)) (
    map.get-from_sorted row_cmp (kept_rows states (map.entries table)) q (kept_sorted states (map.entries table) sorted)
    ∙ find_made make q (map.entries table) sorted
    ∙ ap (option_and_then (make q)) (sym (map.get-entries table q))
    )
    ∙ either_way (map.get states q) (map.get table q)
    ∙ sym (get-overwritten states table q))

-- a map of its own entries
pub same_map_again : {V : Type 0} (m : map.FinMap row_cmp V) → map.from_sorted {R = row_cmp} (map.entries m) ≡ m
same_map_again m = map.same_entries_map _ _ (map.entries-from_sorted row_cmp (map.entries m) (map.entries_sorted m))
