use Rattle.std.proofs.Common.{◌≡◌, ◌++◌, drop, flat_map}
use Rattle.lab_picture.specs.Arrows.{forward_text}
use Rattle.lab_picture.proofs.arrows.put_forward.Given as goal

abbrev pub invariant-loop-arrow : goal.invariant-loop-arrow
invariant-loop-arrow l = l.out.items ++ flat_map (forward_text l.frame l.columns) (drop l.arrow-index l.arrows) ≡ l.initial.out.items ++ flat_map (forward_text l.frame l.columns) l.arrows
