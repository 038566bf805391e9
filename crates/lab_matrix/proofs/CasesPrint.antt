-- The scripts of the cases print within the limits of a text.
use Rattle.std.proofs.{Common.{◌≡◌, ◌≤◌, ◌<◌, ◌++◌, ℕ, ℤ, pos, List, [], ◌∷◌, length, Some, None, refl, sym, ap, ◌∙◌, subst, arith, length-append}, lemmas.{List.{nil_from_length}, Fmt.{length_signed_le, length-decimal-le}}}
use Rattle.std.specs.{Prelude.{codes}, Fmt.{decimal, signed_decimal}, FinMap.{entries-insert, put, len-entries, len-empty}}
use Rattle.std.specs.FinMap as map
use Rattle.lab_table.specs.Row.{Row, row_cmp, rows_total, in_test}
use Rattle.lab_table.specs.TableName.{test_name}
use Rattle.lab_table.specs.Predicate.{Compare, Remainder, OneOf}
use Rattle.lab_table.specs.declared.{predicate.{Col.{Col, TheVariants.{Id, Value as Column}}, Cmp.TheVariants.{Eq}}, statement.{Expr.TheVariants.{Set}, Statement.{Statement}, StatementKind.{StatementKind, TheVariants.{Select, Update, Insert}}}}
use Rattle.lab_printing.specs.Limits.{StatementPrints}
use Rattle.lab_script.specs.{Limits.{ScriptPrints, AllPrint}, Tables.{with_rows, with_lines, setup_tables}, declared.script.Line.{Line}, Printed.{printed_setup, named_rows_or}}
use Rattle.lab_matrix.specs.{Listings.{usual_setup, case_script, g0_lines, g1a_lines, g1b_lines, g1c_lines, otv_lines, pmp_lines, p4_lines, g_single_lines, g2_item_lines, g2_lines}, declared.name.CaseName.{CaseName}}
use Rattle.lab_matrix.specs.declared.name.CaseName.TheVariants as name

-- the rows of the usual setup
rows : map.entries usual_setup ≡ (in_test 1, pos 10) ∷ (in_test 2, pos 20) ∷ []
rows =
    let none : map.entries (map.empty {K = Row} {X = ℤ} {R = row_cmp}) ≡ [] = nil_from_length _ (sym (len-entries (map.empty {K = Row} {X = ℤ} {R = row_cmp})) ∙ len-empty row_cmp ℤ) in
    entries-insert rows_total (map.insert map.empty (in_test 1) (pos 10)) (in_test 2) (pos 20) ∙ ap (put row_cmp (in_test 2) (pos 20)) (entries-insert rows_total map.empty (in_test 1) (pos 10) ∙ ap (put row_cmp (in_test 1) (pos 10)) none)

-- a small number has few digits
digits_of : (n : ℕ) → n < 1000 → length (signed_decimal (pos n)) ≤ 5
digits_of n lt = length_signed_le 4 (pos n) (omega (arith, lt)) (omega (arith, lt))

-- a statement on the rows of the table test
abbrev over_test : StatementKind → Statement
over_test kind = record { table = test_name; kind = kind }

-- an update of a row
update_prints : (id value : ℕ) → id < 1000 → value < 1000 → StatementPrints (over_test (Update (Set (pos value)) (Some (Compare Id Eq (pos id)))))
update_prints id value small little =
    let a : length (signed_decimal (pos id)) ≤ 5 = digits_of id small in
    let b : length (signed_decimal (pos value)) ≤ 5 = digits_of value little in
    record { shallow = omega arith; short = simp length-append (omega (arith, a, b)) }

-- a select of the rows whose column equals a number
equal_prints : (col : Col) (n : ℕ) → n < 1000 → StatementPrints (over_test (Select (Some (Compare col Eq (pos n)))))
equal_prints Id n small = let a : length (signed_decimal (pos n)) ≤ 5 = digits_of n small in record { shallow = omega arith; short = simp length-append (omega (arith, a)) }
equal_prints Column n small = let a : length (signed_decimal (pos n)) ≤ 5 = digits_of n small in record { shallow = omega arith; short = simp length-append (omega (arith, a)) }

-- a select of the rows whose value leaves a rest
rest_prints : (m r : ℕ) → m < 1000 → r < 1000 → StatementPrints (over_test (Select (Some (Remainder Column m (pos r)))))
rest_prints m r small little =
    let a : length (decimal m) ≤ 4 = length-decimal-le 4 m (omega arith) (omega (arith, small)) (omega (arith, small)) in
    let b : length (signed_decimal (pos r)) ≤ 5 = digits_of r little in
    record { shallow = omega arith; short = simp length-append (omega (arith, a, b)) }

-- a select of two rows
two_print : StatementPrints (over_test (Select (Some (OneOf Id (pos 1 ∷ pos 2 ∷ [])))))
two_print =
    let a : length (signed_decimal (pos 1)) ≤ 5 = digits_of 1 (omega arith) in
    let b : length (signed_decimal (pos 2)) ≤ 5 = digits_of 2 (omega arith) in
    record { shallow = omega arith; short = simp length-append (omega (arith, a, b)) }

-- a select of all rows
all_print : StatementPrints (over_test (Select None))
all_print = record { shallow = omega arith; short = omega arith }

-- an insert
insert_prints : (id value : ℕ) → id < 1000 → value < 1000 → StatementPrints (over_test (Insert id (pos value)))
insert_prints id value small little =
    let a : length (decimal id) ≤ 4 = length-decimal-le 4 id (omega arith) (omega (arith, small)) (omega (arith, small)) in
    let b : length (signed_decimal (pos value)) ≤ 5 = digits_of value little in
    record { shallow = omega arith; short = simp length-append (omega (arith, a, b)) }

-- each statement of G0
g0_print : AllPrint g0_lines
g0_print = (
  tt,
  (
    tt,
    (
      update_prints 1 11 (omega arith) (omega arith),
      (update_prints 1 12 (omega arith) (omega arith), (update_prints 2 21 (omega arith) (omega arith), (tt, (update_prints 2 22 (omega arith) (omega arith), (tt, tt))))),
    ),
  ),
)

-- each statement of G1a
g1a_print : AllPrint g1a_lines
g1a_print = (tt, (tt, (update_prints 1 101 (omega arith) (omega arith), (all_print, (tt, (all_print, (tt, tt)))))))

-- each statement of G1b
g1b_print : AllPrint g1b_lines
g1b_print = (tt, (tt, (update_prints 1 101 (omega arith) (omega arith), (all_print, (update_prints 1 11 (omega arith) (omega arith), (tt, (all_print, (tt, tt))))))))

-- each statement of G1c
g1c_print : AllPrint g1c_lines
g1c_print =
    (tt, (tt, (update_prints 1 11 (omega arith) (omega arith), (update_prints 2 22 (omega arith) (omega arith), (equal_prints Id 2 (omega arith), (equal_prints Id 1 (omega arith), (tt, (tt, tt))))))))

-- each statement of OTV
otv_print : AllPrint otv_lines
otv_print = (
  tt,
  (
    tt,
    (
      tt,
      (
        update_prints 1 11 (omega arith) (omega arith),
        (
          update_prints 2 19 (omega arith) (omega arith),
          (
            update_prints 1 12 (omega arith) (omega arith),
            (
              tt,
              (
                equal_prints Id 1 (omega arith),
                (
                  update_prints 2 18 (omega arith) (omega arith),
                  (equal_prints Id 2 (omega arith), (tt, (equal_prints Id 2 (omega arith), (equal_prints Id 1 (omega arith), (tt, tt))))),
                ),
              ),
            ),
          ),
        ),
      ),
    ),
  ),
)

-- each statement of PMP
pmp_print : AllPrint pmp_lines
pmp_print = (tt, (tt, (equal_prints Column 30 (omega arith), (insert_prints 3 30 (omega arith) (omega arith), (tt, (rest_prints 3 0 (omega arith) (omega arith), (tt, tt)))))))

-- each statement of P4
p4_print : AllPrint p4_lines
p4_print =
    (tt, (tt, (equal_prints Id 1 (omega arith), (equal_prints Id 1 (omega arith), (update_prints 1 11 (omega arith) (omega arith), (update_prints 1 11 (omega arith) (omega arith), (tt, (tt, tt))))))))

-- each statement of GSingle
g_single_print : AllPrint g_single_lines
g_single_print = (
  tt,
  (
    tt,
    (
      equal_prints Id 1 (omega arith),
      (
        equal_prints Id 1 (omega arith),
        (equal_prints Id 2 (omega arith), (update_prints 1 12 (omega arith) (omega arith), (update_prints 2 18 (omega arith) (omega arith), (tt, (equal_prints Id 2 (omega arith), (tt, tt)))))),
      ),
    ),
  ),
)

-- each statement of G2Item
g2_item_print : AllPrint g2_item_lines
g2_item_print = (tt, (tt, (two_print, (two_print, (update_prints 1 11 (omega arith) (omega arith), (update_prints 2 21 (omega arith) (omega arith), (tt, (tt, tt))))))))

-- each statement of G2
g2_print : AllPrint g2_lines
g2_print = (
  tt,
  (
    tt,
    (
      rest_prints 3 0 (omega arith) (omega arith),
      (
        rest_prints 3 0 (omega arith) (omega arith),
        (insert_prints 3 30 (omega arith) (omega arith), (insert_prints 4 42 (omega arith) (omega arith), (tt, (tt, tt)))),
      ),
    ),
  ),
)

-- the line of the usual setup is short
setup_short : length (printed_setup usual_setup) ≤ 4000
setup_short =
    let a : length (decimal 1) ≤ 4 = length-decimal-le 4 1 (omega arith) (omega arith) (omega arith) in
    let b : length (signed_decimal (pos 10)) ≤ 5 = digits_of 10 (omega arith) in
    let c : length (decimal 2) ≤ 4 = length-decimal-le 4 2 (omega arith) (omega arith) (omega arith) in
    let d : length (signed_decimal (pos 20)) ≤ 5 = digits_of 20 (omega arith) in
    subst (λ (es : List (Row × ℤ)). length (codes "setup " ++ named_rows_or (codes "()") es ++ codes ";") ≤ 4000) (sym rows) (simp length-append (omega (arith, a, b, c, d)))

-- the setup names the table test alone
setup_named : setup_tables usual_setup ≡ test_name ∷ []
setup_named = ap (with_rows []) rows

-- lines that name no other table
few_named : (lines : List Line) → with_lines (test_name ∷ []) lines ≡ test_name ∷ [] → length (with_lines (setup_tables usual_setup) lines) ≤ 4
few_named lines same = subst (λ names. length names ≤ 4) (sym (ap (λ names. with_lines names lines) setup_named ∙ same)) (omega arith)

-- the script of each case
pub case_prints : (case : CaseName) → ScriptPrints (case_script case)
case_prints name.G0 = record { setup = setup_short; few = omega arith; lines = g0_print; tables = few_named g0_lines refl }
case_prints name.G1a = record { setup = setup_short; few = omega arith; lines = g1a_print; tables = few_named g1a_lines refl }
case_prints name.G1b = record { setup = setup_short; few = omega arith; lines = g1b_print; tables = few_named g1b_lines refl }
case_prints name.G1c = record { setup = setup_short; few = omega arith; lines = g1c_print; tables = few_named g1c_lines refl }
case_prints name.Otv = record { setup = setup_short; few = omega arith; lines = otv_print; tables = few_named otv_lines refl }
case_prints name.Pmp = record { setup = setup_short; few = omega arith; lines = pmp_print; tables = few_named pmp_lines refl }
case_prints name.P4 = record { setup = setup_short; few = omega arith; lines = p4_print; tables = few_named p4_lines refl }
case_prints name.GSingle = record { setup = setup_short; few = omega arith; lines = g_single_print; tables = few_named g_single_lines refl }
case_prints name.G2Item = record { setup = setup_short; few = omega arith; lines = g2_item_print; tables = few_named g2_item_lines refl }
case_prints name.G2 = record { setup = setup_short; few = omega arith; lines = g2_print; tables = few_named g2_lines refl }
