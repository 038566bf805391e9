use Rattle.std.proofs.{Common.{◌∙◌, ap, sym, set, arith}, lemmas.List.Edits.{map_over_more}}
use Rattle.lab_table.specs.Running.{updated_row}
use Rattle.lab_table.proofs.table.update_each.Goals as goal

pub loop-row-preserved : goal.loop-row-preserved
loop-row-preserved c =
    ap (λ x. set c.loop-row.rows c.loop-row.row-index x) (c.update_row.ensures ∙ ap (updated_row c.args.table c.args.expr.now c.args.pred.now) (sym c.row-item.is))
    ∙ map_over_more (updated_row c.args.table c.args.expr.now c.args.pred.now) c.args.rows.now c.loop-row.rows c.loop-row.row-index c.row-item.result (omega arith) c.loop-row.invariant c.row-item.is
