use Rattle.std.specs.Prelude.{IfSome}
use Rattle.lab_shrink.specs.Smaller.{IsSmaller}
use Rattle.lab_shrink.proofs.following.led.Given as goal

abbrev pub invariant-loop : goal.invariant-loop
invariant-loop l = IfSome l.found (IsSmaller l.whole l.goal)
