use Rattle.std.proofs.Common.{◌≡◌, ◌++◌, drop}
use Rattle.lab_picture.specs.Forward.{arrows_in}
use Rattle.lab_picture.proofs.forward.arrows_in.Given as goal

abbrev pub invariant-loop-edge : goal.invariant-loop-edge
invariant-loop-edge l = l.arrows.items ++ arrows_in l.history (drop l.edge-index l.found) ≡ arrows_in l.history l.found
