use Rattle.std.proofs.Common.{◌≡◌, ◌++◌, drop, flat_map}
use Rattle.lab_evidence.specs.Rows.{later_row}
use Rattle.lab_evidence.proofs.rows.put_later_rows.Given as goal

abbrev pub invariant-loop-row : goal.invariant-loop-row
invariant-loop-row l = l.out.items ++ flat_map (later_row l.history l.rows) (drop l.row-index l.entries) ≡ l.initial.out.items ++ flat_map (later_row l.history l.rows) l.entries
