use Rattle.std.proofs.Common.{◌≡◌, drop}
use Rattle.lab_history.specs.FirstPartsFault.{ops_checked}
use Rattle.lab_history.proofs.checking.check_ops.Given as goal

abbrev pub invariant-loop-index : goal.invariant-loop-index
invariant-loop-index l = ops_checked l.txn l.by l.index (drop l.index l.ops) ≡ ops_checked l.txn l.by 0 l.ops
