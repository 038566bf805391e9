use Rattle.std.proofs.Common.{◌≡◌, ◌≤◌, drop}
use Rattle.lab_history.specs.RunningCounts.{ops_counted}
use Rattle.lab_history.proofs.limits.count_ops.Given as goal

abbrev pub invariant-loop-op : goal.invariant-loop-op
invariant-loop-op l = (ops_counted l.total (drop l.op-index l.ops) ≡ ops_counted l.before l.ops) × (l.total ≤ 200000)
