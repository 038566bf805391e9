use Rattle.std.proofs.Common.{◌≡◌, ◌++◌, ◌+◌, ◌*◌, ◌≤◌, drop}
use Rattle.lab_picture.specs.Values.{values_at}
use Rattle.lab_picture.proofs.values.put_values_at.Given as goal

abbrev pub invariant-loop-row : goal.invariant-loop-row
invariant-loop-row l = record {
  same : l.out.items ++ values_at l.history l.line_y (drop l.row-index l.rows) ≡ l.initial.out.items ++ values_at l.history l.y l.rows;
  within : l.line_y ≤ l.y + 14 * l.row-index;
}
