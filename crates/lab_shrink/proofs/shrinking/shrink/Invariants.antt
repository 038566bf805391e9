use Rattle.std.specs.Prelude.{IfSome}
use Rattle.lab_shrink.specs.Smaller.{IsSmaller}
use Rattle.lab_shrink.proofs.shrinking.shrink.Given as goal

abbrev pub invariant-loop-round : goal.invariant-loop-round
invariant-loop-round g l = IfSome l.found (IsSmaller l.history l.goal)
