use Rattle.std.{proofs.Common.{◌≡◌, true, not, rules, sym, ap, ◌∙◌, subst}, specs.{Bool.{then_some}, Prelude.{is_none}, FinMap.{get, entries}}}
use Rattle.lab_table.specs.{Row.{Row, row_test}, Statement.{rewritten}}
use Rattle.lab_history.specs.Version.{viewed, new_state}
use Rattle.lab_deps.{specs.{Broken.{writes_other, result_differs, is_added_otherwise}, FirstOf.{IsLeastRow, first_value, first_entry, least}}, proofs.MiswrittenRows.{read_least, insert_least, change_least}}
use Rattle.lab_deps.proofs.miswritten.miswritten_row.Goals as goal

pub returns-then-is_read_only : goal.returns-then-is_read_only
returns-then-is_read_only c =
    let h = c.args.history.now in
    let op = c.args.op.now in
    subst (IsLeastRow (λ row. writes_other h op row (viewed op row) ≡ true)) (sym (c.first_written.ensures (λ row. true) (λ row b post. search rules))) (read_least h op (sym c.is_read_only.ensures ∙ c.if-is_read_only.true))

pub returns-in-None : goal.returns-in-None
returns-in-None c =
    let h = c.args.history.now in
    let op = c.args.op.now in
    let same : c.least.result ≡ least (first_value (λ row value. result_differs (rewritten op.statement value) (new_state op row)) (entries op.rows)) (first_entry (λ row. is_none (get op.rows row)) (entries op.writes)) = cc in
    subst (IsLeastRow (λ row. writes_other h op row (viewed op row) ≡ true)) (sym same) (change_least h op (sym c.inserted.ensures ∙ c.in-None.is) (sym c.is_read_only.ensures ∙ c.if-is_read_only.false))

pub returns-in-Some : goal.returns-in-Some
returns-in-Some c =
    let h = c.args.history.now in
    let op = c.args.op.now in
    let added = c.in-Some.added in
    let elsewhere = λ (written : Row). not (row_test written added.0) in
    let other : c.first_written-other.result ≡ first_entry elsewhere (entries op.writes) = c.first_written-other.ensures elsewhere (λ written b post. search rules) in
    let same : c.least-in-Some.result ≡ least (first_entry elsewhere (entries op.writes)) (then_some (is_added_otherwise h op added.1 added.0) added.0) =
    c.least-in-Some.ensures ∙ ap (λ o. least o c.added_otherwise.result) other ∙ ap (least (first_entry elsewhere (entries op.writes))) c.added_otherwise.ensures in
    subst (IsLeastRow (λ row. writes_other h op row (viewed op row) ≡ true)) (sym same) (insert_least h op added (sym c.inserted.ensures ∙ c.in-Some.is))
