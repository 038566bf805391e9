use Rattle.std.proofs.Common.{◌≡◌, ◌++◌, drop}
use Rattle.lab_cut.specs.Seen.{ops_seeing, behind_views}
use Rattle.lab_cut.proofs.entries.left_ops.Given as goal

abbrev pub invariant-loop-op : goal.invariant-loop-op
invariant-loop-op l = record {
  left : l.left.items ++ ops_seeing l.mask (drop l.op-index l.ops) ≡ ops_seeing l.initial.mask l.ops;
  mask : behind_views l.mask (drop l.op-index l.ops) ≡ behind_views l.initial.mask l.ops;
}
