-- Lists of rows in which no row comes twice, and the tables that they make.
use Rattle.lab_script.proofs.Common.{◌≡◌, ℤ, true, false, cond, T, List, [], ◌∷◌, ◌++◌, Option, Some, None, is_some, refl, sym, ap, ◌∙◌, inl, inr, find, contains_key, from_entries, get-from_entries, cases_Bool, true≢false, none-some, Row, row_cmp, row_eq, rows_total, Table, both, AllDistinct}
use Rattle.std.specs.FinMap.Entries.{below_all, find-append, is_sorted}
use Rattle.lab_table.proofs.Maps.{find_below, same_row, row_eq_self}

-- the table that rows make
abbrev pub table_of : List (Row × ℤ) → Table
table_of rows = from_entries rows

-- a table has a row where the list has it
is_here : (rows : List (Row × ℤ)) (id : Row) → contains_key (table_of rows) id ≡ is_some (find row_cmp id rows)
is_here rows id = ap is_some (get-from_entries rows_total rows id)

found_none : (o : Option ℤ) → is_some o ≡ false → o ≡ None
found_none None h = refl
found_none (Some v) h = absurd cc

-- a row that isn't found isn't the first, and isn't found behind it
parted : (id : Row) (row : Row × ℤ) (rows : List (Row × ℤ)) → find row_cmp id (row ∷ rows) ≡ None → (row_eq id row.0 ≡ false) × (find row_cmp id rows ≡ None)
parted id row rows h =
    elim (row_eq id row.0) as (λ b. cond b (Some row.1) (find row_cmp id rows) ≡ None → (b ≡ false) × (find row_cmp id rows ≡ None)) [
      | true ↦ λ e. absurd (none-some row.1 (sym e))
      | false ↦ λ e. (refl, e)
    ] h

-- rows are apart in either order
apart_back : (a b : Row) → row_eq a b ≡ false → row_eq b a ≡ false
apart_back a b h =
    elim (cases_Bool (row_eq b a)) [
      | inl is ↦ absurd (true≢false (sym (row_eq_self a) ∙ ap (row_eq a) (sym (same_row b a is)) ∙ h))
      | inr isnt ↦ isnt
    ]

-- a row that isn't found is apart from each
apart_from : (id : Row) (before rows : List (Row × ℤ)) (row : Row × ℤ) → find row_cmp id (before ++ row ∷ rows) ≡ None → row_eq id row.0 ≡ false
apart_from id [] rows row h = (parted id row rows h).0
apart_from id (first ∷ before) rows row h = apart_from id before rows row (parted id first (before ++ row ∷ rows) h).1

-- of distinct rows, none is among those before it
pub not_before : (before rows : List (Row × ℤ)) (row : Row × ℤ) → AllDistinct (before ++ row ∷ rows) → find row_cmp row.0 before ≡ None
not_before [] rows row all = refl
not_before (first ∷ before) rows row all =
    ap (λ b. cond b (Some first.1) (find row_cmp row.0 before)) (apart_back first.0 row.0 (apart_from first.0 before rows row all.0)) ∙ not_before before rows row all.1

-- a row that the table of rows doesn't have isn't among them
pub absent_from : (before : List (Row × ℤ)) (id : Row) → contains_key (table_of before) id ≡ false → find row_cmp id before ≡ None
absent_from before id h = found_none (find row_cmp id before) (sym (is_here before id) ∙ h)

-- and the other way round
pub is_absent : (before : List (Row × ℤ)) (id : Row) → find row_cmp id before ≡ None → contains_key (table_of before) id ≡ false
is_absent before id none = is_here before id ∙ ap is_some none

-- distinct rows and a new one behind them are distinct
pub pushed_distinct : (before : List (Row × ℤ)) (row : Row × ℤ) → AllDistinct before → find row_cmp row.0 before ≡ None → AllDistinct (before ++ row ∷ [])
pushed_distinct [] row all none = (refl, tt)
pushed_distinct (first ∷ before) row all none =
    let parts = parted row.0 first before none in (
      find-append row_cmp rows_total before row.0 row.1 first.0 parts.1
          ∙ ap (λ b. cond b (Some row.1) (find row_cmp first.0 before)) (apart_back row.0 first.0 parts.0) ∙ all.0,
      pushed_distinct before row all.1 parts.1,
    )

-- rows in order are distinct
pub sorted_distinct : (rows : List (Row × ℤ)) → T (is_sorted row_cmp rows) → AllDistinct rows
sorted_distinct [] sorted = tt
sorted_distinct (row ∷ rows) sorted =
    let parts = both (below_all row_cmp row.0 rows) (is_sorted row_cmp rows) sorted in
    (find_below row.0 rows parts.0, sorted_distinct rows parts.1)
