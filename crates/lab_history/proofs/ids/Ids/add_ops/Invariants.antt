use Rattle.std.proofs.Common.{◌≡◌, drop}
use Rattle.lab_history.specs.RunningCounts.{ops_within}
use Rattle.lab_history.proofs.ids.Ids.add_ops.Given as goal

abbrev pub invariant-loop-op : goal.invariant-loop-op
invariant-loop-op l = ops_within l.self (drop l.op-index l.ops) ≡ ops_within l.fn.self l.ops
