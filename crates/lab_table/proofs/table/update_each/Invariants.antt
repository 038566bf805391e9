use Rattle.std.proofs.Common.{◌≡◌, ◌++◌, take, drop, map}
use Rattle.lab_table.specs.Running.{updated_row}
use Rattle.lab_table.proofs.table.update_each.Given as goal

abbrev pub invariant-loop-row : goal.invariant-loop-row
invariant-loop-row l = l.rows ≡ map (updated_row l.table l.expr l.pred) (take l.row-index l.fn.rows) ++ drop l.row-index l.fn.rows
