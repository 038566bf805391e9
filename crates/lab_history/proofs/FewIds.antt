-- Rows that are all in ranges are no more than these have.
use Rattle.std.proofs.Common.{◌≡◌, ℕ, ◌+◌, ◌-◌, ◌≤◌, ◌<◌, Bool, true, false, ◌&&◌, ◌||◌, List, [], ◌∷◌, length, map, refl, sym, ap, ◌∙◌, arith}
use Rattle.std.specs.{List.{list_any, list_all, flat_map, sum_by, range_with_len}, Cmp.{Equal-is, Lexicographic.{bytes_decides}}}
use Rattle.std.proofs.lemmas.{Bool.{false≢true, and_parts, leb-true, ltb-true}, Cmp.{eq_by_cmp_equiv}, List.{length-append, Folds.{list_any-append, list_any_at}, Sums.{sum_by-cons}, FromFn.{length-map-range_with_len, get_or-map-range_with_len}}}
use Rattle.std.proofs.Math.Bool.{or-true}
use Rattle.lab_table.specs.{Row.{Row, row_eq, row_made, row_cmp, numbered, rows_apart, rows_total}, TableName.{table_name_eq}}
use Rattle.lab_history.{specs.{HistoryRules.{distinct_rows}, IdRanges.{rows_in, has_row, have_row}, declared.id_range.IdRange.{IdRange}}, proofs.CountedRows.{distinct_among}}

-- ---- the rows of ranges

abbrev rows_of : IdRange → List Row
rows_of range = map (numbered range.table) (range_with_len range.least (rows_in range))

length_rows : (ranges : List IdRange) → length (flat_map rows_of ranges) ≡ sum_by rows_in ranges
length_rows [] = refl
length_rows (r ∷ rs) =
    length-append (rows_of r) (flat_map rows_of rs) ∙ ap (λ n. n + length (flat_map rows_of rs)) (length-map-range_with_len (numbered r.table) r.least (rows_in r))
    ∙ ap (λ n. rows_in r + n) (length_rows rs) ∙ sym (sum_by-cons rows_in r rs)

-- a row in a range is one of its rows
one_of : (range : IdRange) (row : Row) → has_row range row ≡ true → list_any (row_eq row) (rows_of range) ≡ true
one_of range row has =
    let above = and_parts (table_name_eq range.table row.table && _) _ has in
    let within = and_parts (table_name_eq range.table row.table) _ above.0 in
    let least : range.least ≤ row.id = leb-true _ _ within.1 in
    let end : row.id < range.end = ltb-true _ _ above.1 in
    let table : range.table ≡ row.table = (bytes_decides range.table row.table).0 within.0 in
    let place : ℕ = row.id - range.least in
    let found = get_or-map-range_with_len (numbered range.table) range.least (rows_in range) place row.id row (omega arith) (omega arith) in
    list_any_at (row_eq row) (rows_of range) place row (omega (arith, length-map-range_with_len (numbered range.table) range.least (rows_in range)))
    (ap (row_eq row) (found ∙ row_made (numbered range.table row.id) row table refl) ∙ (eq_by_cmp_equiv rows_total).refl row)

among : (ranges : List IdRange) (row : Row) → have_row ranges row ≡ true → list_any (row_eq row) (flat_map rows_of ranges) ≡ true
among [] row has = absurd (false≢true has)
among (r ∷ rs) row has = list_any-append (row_eq row) (rows_of r) (flat_map rows_of rs) ∙ by (has_row r row) refl has (among rs row)
  where
    by : (b : Bool) → has_row r row ≡ b → (b || have_row rs row) ≡ true → (have_row rs row ≡ true → list_any (row_eq row) (flat_map rows_of rs) ≡ true)
        → (list_any (row_eq row) (rows_of r) || list_any (row_eq row) (flat_map rows_of rs)) ≡ true
    by true is h rest = ap (λ b. b || list_any (row_eq row) (flat_map rows_of rs)) (one_of r row is)
    by false is h rest = ap (λ b. list_any (row_eq row) (rows_of r) || b) (rest h) ∙ or-true _

-- ---- rows that are all in them

-- what passes for each row of a list passes for each row that is in it
passes : (p : Row → Bool) (row : Row) (rows : List Row) → list_all p rows ≡ true → list_any (row_eq row) rows ≡ true → p row ≡ true
passes p row [] all is = absurd (false≢true is)
passes p row (x ∷ xs) all is = by (row_eq row x) refl is (passes p row xs (and_parts (p x) (list_all p xs) all).1)
  where
    by : (b : Bool) → row_eq row x ≡ b → (b || list_any (row_eq row) xs) ≡ true → (list_any (row_eq row) xs ≡ true → p row ≡ true) → p row ≡ true
    by true same h rest = ap p (rows_apart row x ((Equal-is (row_cmp row x)).0 same)) ∙ (and_parts (p x) (list_all p xs) all).0
    by false other h rest = rest h

pub few_in_ranges : (ranges : List IdRange) (rows : List Row) → list_all (have_row ranges) rows ≡ true → distinct_rows rows ≤ sum_by rows_in ranges
few_in_ranges ranges rows all =
    omega (arith, length_rows ranges, distinct_among rows (flat_map rows_of ranges) (λ row is. among ranges row (passes (have_row ranges) row rows all is)))
