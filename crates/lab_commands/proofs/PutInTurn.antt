-- Rows put into states one after another, and a row removed.
use Rattle.std.{proofs.Common.{◌≡◌, ℤ, Bool, true, false, cond, T, List, [], ◌∷◌, Some, None, refl, sym, ap, ◌∙◌, subst}, specs.{Prelude.{filter, not}, FinMap.{find, is_sorted, Entries.{below_all}}}}
use Rattle.std.specs.FinMap as map
use Rattle.lab_table.{specs.{Row.{Row, row_cmp, row_eq, row_test, rows_total, rows_tested}, Table.{State, Table, Writes, put, overwritten}}, proofs.{KeptRows.{sorted-filter}, Maps.{same_row, same_rows, find_below, find-filter, kept, state_after, get-put, get-overwritten}, Tests.{both}}}
use Rattle.lab_commands.specs.Overwriting.{put_each}

-- each row has the one state that it is put into, where the rows rise strictly
get-put_each : (ws : List (Row × State)) (t : Table) (q : Row) → T (is_sorted row_cmp ws) → map.get (put_each ws t) q ≡ state_after (find row_cmp q ws) (map.get t q)
get-put_each [] t q h = refl
get-put_each (w ∷ ws) t q h =
    let parts = both (below_all row_cmp w.0 ws) (is_sorted row_cmp ws) h in
    get-put_each ws (put w.0 w.1 t) q parts.1
    ∙ ap (state_after (find row_cmp q ws)) (get-put w.0 w.1 t q)
    ∙ at parts.0 (row_eq q w.0) refl
  where
    at : T (below_all row_cmp w.0 ws) → (b : Bool) → row_eq q w.0 ≡ b → state_after (find row_cmp q ws) (cond b w.1 (map.get t q)) ≡ state_after (cond b (Some w.1) (find row_cmp q ws)) (map.get t q)
    at below true own =
        let same : q ≡ w.0 = same_row q w.0 own in
        ap (λ o. state_after o w.1) (find_below q ws (subst (λ x. T (below_all row_cmp x ws)) (sym same) below))
    at below false apart = refl

-- so writes that are put one after another overwrite the table
pub overwritten_in_turn : (writes : Writes) (t : Table) → put_each (map.entries writes) t ≡ overwritten writes t
overwritten_in_turn writes t = same_rows _ _ (λ q.
    get-put_each (map.entries writes) t q (map.entries_sorted writes)
    ∙ ap (λ o. state_after o (map.get t q)) (sym (map.get-entries writes q))
    ∙ sym (get-overwritten writes t q))

-- the entries of other rows
abbrev pub others : Row → List (Row × ℤ) → List (Row × ℤ)
others row es = filter (λ e. not (row_test e.0 row)) es

pub others_sorted : (t : Table) (row : Row) → T (is_sorted row_cmp (others row (map.entries t)))
others_sorted t row = sorted-filter (λ other value. not (row_test other row)) (map.entries t) (map.entries_sorted t)

kept_others : (row q : Row) (state : State) (b : Bool) → row_test q row ≡ b → kept (λ other value. not (row_test other row)) q state ≡ cond b None state
kept_others row q None true test = refl
kept_others row q None false test = refl
kept_others row q (Some value) true test = ap (λ b. cond (not b) (Some value) None) test
kept_others row q (Some value) false test = ap (λ b. cond (not b) (Some value) None) test

-- a table of the entries of other rows is the one that the row is removed from
pub removed : (t : Table) (row : Row) → map.from_sorted (others row (map.entries t)) ≡ map.remove t row
removed t row = same_rows _ _ (λ q.
    map.get-from_sorted row_cmp (others row (map.entries t)) q (others_sorted t row)
    ∙ find-filter (λ other value. not (row_test other row)) q (map.entries t) (map.entries_sorted t)
    ∙ ap (kept (λ other value. not (row_test other row)) q) (sym (map.get-entries t q))
    ∙ kept_others row q (map.get t q) (row_eq q row) (rows_tested q row)
    ∙ sym (map.get-remove rows_total t row q))

-- a map of its own entries
pub of_its_entries : (t : Table) → map.from_sorted {R = row_cmp} (map.entries t) ≡ t
of_its_entries t = map.same_entries_map _ _ (map.entries-from_sorted row_cmp (map.entries t) (map.entries_sorted t))
