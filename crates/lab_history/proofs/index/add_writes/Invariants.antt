use Rattle.std.proofs.Common.{◌≡◌, ◌++◌, drop}
use Rattle.lab_history.specs.Index.{written_by}
use Rattle.lab_history.proofs.index.add_writes.Given as goal

abbrev pub invariant-loop-row : goal.invariant-loop-row
invariant-loop-row l = l.writes.items ++ written_by l.txn l.op (drop l.row-index l.entries) ≡ l.initial.writes.items ++ written_by l.txn l.op l.entries
