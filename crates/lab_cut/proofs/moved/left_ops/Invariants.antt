use Rattle.std.proofs.Common.{◌≡◌, ◌++◌, map, drop}
use Rattle.lab_cut.specs.{Cut.{left_op}, Left.{left_of}, Kept.{kept_in}}
use Rattle.lab_cut.proofs.moved.left_ops.Given as goal

abbrev pub invariant-loop-op : goal.invariant-loop-op
invariant-loop-op l = record {
  left : l.left.items ++ map (left_op (kept_in l.moves)) (left_of l.mask (drop l.op-index l.ops)) ≡ map (left_op (kept_in l.moves)) (left_of l.initial.mask l.ops);
  mask : l.mask ≡ drop l.op-index l.initial.mask;
}
