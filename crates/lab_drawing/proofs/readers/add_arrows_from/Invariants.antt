use Rattle.std.proofs.Common.{◌≡◌, drop}
use Rattle.lab_order.specs.Arrows.{nodes_of}
use Rattle.lab_drawing.proofs.GrownArrows.{StaysSame}
use Rattle.lab_drawing.proofs.readers.add_arrows_from.Given as goal

-- the arrows from the nodes so far were added
abbrev pub invariant-loop-from : goal.invariant-loop-from
invariant-loop-from l = record { size : nodes_of l.graph ≡ nodes_of l.initial.graph; same : StaysSame l.ties l.nodes (drop l.from-index l.among) l.to l.graph l.among l.initial.graph }
