use Rattle.std.proofs.Common.{◌≡◌, ◌++◌, drop, flat_map}
use Rattle.lab_drawing.specs.Making.{arrows_of}
use Rattle.lab_drawing.proofs.sketch.arrows_of.Given as goal

abbrev pub invariant-loop-edge : goal.invariant-loop-edge
invariant-loop-edge l = l.arrows.items ++ flat_map (arrows_of l.history) (drop l.edge-index l.walk) ≡ flat_map (arrows_of l.history) l.walk
