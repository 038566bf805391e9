use Rattle.std.proofs.Common.{◌≡◌, ◌++◌, drop}
use Rattle.lab_compare.specs.Cells.{cells_from, left_behind}
use Rattle.lab_compare.proofs.cells.cells_from.Given as goal

abbrev pub invariant-loop-line : goal.invariant-loop-line
invariant-loop-line l = l.cells.items ++ cells_from (left_behind l.log l.places) (drop l.line-index l.lines) ≡ cells_from (left_behind l.log l.fn.begun) l.lines
