use Rattle.std.specs.Prelude.{IfSome}
use Rattle.lab_shrink.specs.Smaller.{IsSmaller}
use Rattle.lab_shrink.proofs.shrinking.take_round.Given as goal

abbrev pub invariant-loop-sort : goal.invariant-loop-sort
invariant-loop-sort g l = IfSome l.found (IsSmaller l.whole l.goal)
