use Rattle.std.proofs.Common.{◌≡◌, drop}
use Rattle.lab_picture.specs.Keys.{some_said}
use Rattle.lab_picture.proofs.keys.some_said.Given as goal

abbrev pub invariant-loop-arrow : goal.invariant-loop-arrow
invariant-loop-arrow l = some_said l.key (drop l.arrow-index l.arrows) ≡ some_said l.key l.arrows
