use Rattle.std.proofs.Common.{◌≡◌}
use Rattle.lab_order.specs.Arrows.{nodes_of}
use Rattle.lab_drawing.proofs.GrownArrows.{HasFirst}
use Rattle.lab_drawing.proofs.readers.graph_of.Given as goal

-- the arrows to the nodes so far were added
abbrev pub invariant-loop-to : goal.invariant-loop-to
invariant-loop-to l = record { size : nodes_of l.graph ≡ l.count; first : HasFirst l.ties l.nodes l.count l.to l.graph }
