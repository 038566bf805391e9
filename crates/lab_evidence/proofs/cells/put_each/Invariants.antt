use Rattle.std.proofs.Common.{◌≡◌, ◌++◌, drop, flat_map}
use Rattle.lab_evidence.specs.Cells.{entry_text}
use Rattle.lab_evidence.proofs.cells.put_each.Given as goal

abbrev pub invariant-loop-entry : goal.invariant-loop-entry
invariant-loop-entry l = l.out.items ++ flat_map (entry_text l.history l.scope l.rows) (drop l.entry-index l.entries) ≡ l.initial.out.items ++ flat_map (entry_text l.history l.scope l.rows) l.entries
