use Rattle.std.proofs.Common.{cond, not, ap, ◌∙◌}
use Rattle.std.specs.FinMap as map
use Rattle.lab_table.specs.Row.{in_test}
use Rattle.lab_matrix.proofs.Setups.{usual_rows}
use Rattle.lab_matrix.proofs.parts.usual.Goals as goal

pub returns : goal.returns
returns c =
    usual_rows c.new-table.result c.add.new.self c.add-2.new.self c.in_ok-add.field-0 c.in_ok-add-2.field-0 c.new-table.ensures
    (c.in_ok-add.ensures.added ∙ ap (λ row. not (map.contains_key c.new-table.result row)) c.row.ensures)
    (c.in_ok-add.ensures.table
    ∙ ap (λ row. cond c.in_ok-add.field-0 (map.insert c.new-table.result row c.value.result) c.new-table.result) c.row.ensures
    ∙ ap (λ value. cond c.in_ok-add.field-0 (map.insert c.new-table.result (in_test 1) value) c.new-table.result) c.value.ensures)
    (c.in_ok-add-2.ensures.added ∙ ap (λ row. not (map.contains_key c.add.new.self row)) c.row-2.ensures)
    (c.in_ok-add-2.ensures.table
    ∙ ap (λ row. cond c.in_ok-add-2.field-0 (map.insert c.add.new.self row c.value-2.result) c.add.new.self) c.row-2.ensures
    ∙ ap (λ value. cond c.in_ok-add-2.field-0 (map.insert c.add.new.self (in_test 2) value) c.add.new.self) c.value-2.ensures)
