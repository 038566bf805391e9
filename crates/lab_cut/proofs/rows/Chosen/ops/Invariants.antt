use Rattle.std.proofs.Common.{◌≡◌, ◌++◌, map, drop}
use Rattle.lab_cut.specs.{Chosen.{has}, InRows.{op_in_rows}}
use Rattle.lab_cut.proofs.rows.Chosen.ops.Given as goal

abbrev pub invariant-loop-op : goal.invariant-loop-op
invariant-loop-op l = l.left.items ++ map (op_in_rows (has l.self)) (drop l.op-index l.ops) ≡ map (op_in_rows (has l.self)) l.ops
