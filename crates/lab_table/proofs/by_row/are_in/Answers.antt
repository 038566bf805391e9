use Rattle.std.proofs.Common.{◌∙◌, sym}
use Rattle.lab_table.{specs.Row.{of_table}, proofs.OneTable.{all_are}}
use Rattle.lab_table.proofs.by_row.are_in.Goals as goal

pub returns-then-is_in : goal.returns-then-is_in
returns-then-is_in g c = λ t.
    let table = c.args.table in
    let first = c.in-Some.first.now in
    let last = c.in-Some-last.last.now in
    all_are table c.args.entries.now first last c.requires (sym c.in-Some.ensures.value) (sym c.in-Some-last.ensures.value) (of_table table first.0 (sym c.is_in.ensures ∙ c.if-is_in.true))
    (of_table table last.0 (sym c.is_in-then-is_in.ensures ∙ t))
