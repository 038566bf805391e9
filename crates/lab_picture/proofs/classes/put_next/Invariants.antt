use Rattle.std.proofs.Common.{◌≡◌, ◌++◌, drop, flat_map}
use Rattle.lab_picture.specs.Classes.{next_class}
use Rattle.lab_picture.proofs.classes.put_next.Given as goal

abbrev pub invariant-loop-step : goal.invariant-loop-step
invariant-loop-step l = l.out.items ++ flat_map next_class (drop l.step-index l.steps) ≡ l.initial.out.items ++ flat_map next_class l.steps
