use Rattle.std.specs.Prelude.{IfSome}
use Rattle.lab_shrink.specs.Smaller.{IsSmaller}
use Rattle.lab_shrink.proofs.shrinking.take_sort.Given as goal

abbrev pub invariant-loop-length : goal.invariant-loop-length
invariant-loop-length g l = IfSome l.found (IsSmaller l.whole l.goal)

abbrev pub decreases-loop-length : goal.decreases-loop-length
decreases-loop-length g l = l.length
