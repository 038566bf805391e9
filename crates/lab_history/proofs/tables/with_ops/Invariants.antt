use Rattle.std.proofs.Common.{◌≡◌, drop}
use Rattle.lab_history.specs.RunningTables.{ops_within}
use Rattle.lab_history.proofs.tables.with_ops.Given as goal

abbrev pub invariant-loop-op : goal.invariant-loop-op
invariant-loop-op l = ops_within l.tables.names (drop l.op-index l.ops) ≡ ops_within l.fn.tables.names l.ops
