use Rattle.std.proofs.Common.{◌≡◌, ◌++◌, drop, flat_map}
use Rattle.lab_explain.specs.Places.{before_text}
use Rattle.lab_explain.proofs.places.put_each_before.Given as goal

abbrev pub invariant-loop-point : goal.invariant-loop-point
invariant-loop-point l = l.out.items ++ flat_map before_text (drop l.point-index l.points) ≡ l.initial.out.items ++ flat_map before_text l.points
