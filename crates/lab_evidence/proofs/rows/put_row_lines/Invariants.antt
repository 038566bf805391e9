use Rattle.std.proofs.Common.{◌≡◌, ◌++◌, drop, flat_map}
use Rattle.lab_evidence.specs.Rows.{row_line}
use Rattle.lab_evidence.proofs.rows.put_row_lines.Given as goal

abbrev pub invariant-loop-row : goal.invariant-loop-row
invariant-loop-row l = l.out.items ++ flat_map (row_line l.history l.scope l.bold) (drop l.row-index l.rows) ≡ l.initial.out.items ++ flat_map (row_line l.history l.scope l.bold) l.rows
