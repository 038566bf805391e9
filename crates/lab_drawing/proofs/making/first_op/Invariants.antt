use Rattle.std.proofs.Common.{◌≡◌, drop}
use Rattle.lab_drawing.specs.Making.{makes, first_op}
use Rattle.lab_drawing.proofs.making.first_op.Given as goal

-- the operation is found among those that are left as among all
abbrev pub invariant-loop-index : goal.invariant-loop-index
invariant-loop-index l = first_op (makes l.history l.edge) l.index (drop l.index l.ops) ≡ first_op (makes l.history l.edge) 0 l.ops
