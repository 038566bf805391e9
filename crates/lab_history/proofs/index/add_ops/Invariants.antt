use Rattle.std.proofs.Common.{◌≡◌, ◌++◌, drop}
use Rattle.lab_history.specs.Index.{written_from}
use Rattle.lab_history.proofs.index.add_ops.Given as goal

abbrev pub invariant-loop-index : goal.invariant-loop-index
invariant-loop-index l = l.writes.items ++ written_from l.txn l.index (drop l.index l.ops) ≡ l.initial.writes.items ++ written_from l.txn 0 l.ops
