use Rattle.std.proofs.Common.{◌≡◌, ◌++◌, drop, flat_map}
use Rattle.lab_evidence.specs.Cells.{asked_entry}
use Rattle.lab_evidence.proofs.cells.put_each_asked.Given as goal

abbrev pub invariant-loop-entry : goal.invariant-loop-entry
invariant-loop-entry l = l.out.items ++ flat_map (asked_entry l.history l.scope l.rows) (drop l.entry-index l.entries) ≡ l.initial.out.items ++ flat_map (asked_entry l.history l.scope l.rows) l.entries
