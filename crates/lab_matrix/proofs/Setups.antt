-- The table that each case begins with, row by row.
use Rattle.std.{proofs.Common.{◌≡◌, ℤ, pos, Bool, true, not, cond, None, ap, ◌∙◌}, specs.{Prelude.{is_some}, FinMap.{get-empty, get-insert}}}
use Rattle.std.specs.FinMap as map
use Rattle.lab_table.specs.{Row.{Row, row_cmp, rows_total, in_test}, Table.{Table}}
use Rattle.lab_matrix.specs.Listings.{usual_setup}

-- a row that isn't there is added
added_row : (old new : Table) (id : Row) (value : ℤ) (added : Bool) → map.get old id ≡ None → added ≡ not (map.contains_key old id) → new ≡ cond added (map.insert old id value) old
    → new ≡ map.insert old id value
added_row old new id value added absent is table =
    let there : added ≡ true = is ∙ ap (λ state. not (is_some state)) absent in
    table ∙ ap (λ b. cond b (map.insert old id value) old) there

-- the second row isn't there when the first one is
second_absent : map.get (map.insert {R = row_cmp} map.empty (in_test 1) (pos 10)) (in_test 2) ≡ None
second_absent = get-insert rows_total map.empty (in_test 1) (pos 10) (in_test 2) ∙ get-empty row_cmp (in_test 2)

-- two rows added to an empty table are the usual setup
pub usual_rows : (empty one two : Table) (first second : Bool) → empty ≡ map.empty
    → first ≡ not (map.contains_key empty (in_test 1)) → one ≡ cond first (map.insert empty (in_test 1) (pos 10)) empty
    → second ≡ not (map.contains_key one (in_test 2)) → two ≡ cond second (map.insert one (in_test 2) (pos 20)) one
    → two ≡ usual_setup
usual_rows empty one two first second new f o s t =
    let absent : map.get empty (in_test 1) ≡ None = ap (λ table. map.get table (in_test 1)) new ∙ get-empty row_cmp (in_test 1) in
    let one_is : one ≡ map.insert map.empty (in_test 1) (pos 10) = added_row empty one (in_test 1) (pos 10) first absent f o ∙ ap (λ table. map.insert table (in_test 1) (pos 10)) new in
    let absent_too : map.get one (in_test 2) ≡ None = ap (λ table. map.get table (in_test 2)) one_is ∙ second_absent in
    added_row one two (in_test 2) (pos 20) second absent_too s t ∙ ap (λ table. map.insert table (in_test 2) (pos 20)) one_is
