use Rattle.std.proofs.Common.{◌≡◌, drop}
use Rattle.lab_picture.specs.Arrows.{has_round}
use Rattle.lab_picture.proofs.arrows.has_round.Given as goal

abbrev pub invariant-loop-arrow : goal.invariant-loop-arrow
invariant-loop-arrow l = has_round l.columns (drop l.arrow-index l.arrows) ≡ has_round l.columns l.arrows
