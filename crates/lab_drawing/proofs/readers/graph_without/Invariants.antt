use Rattle.std.proofs.Common.{◌≡◌}
use Rattle.lab_order.specs.Arrows.{nodes_of}
use Rattle.lab_drawing.proofs.GrownArrows.{HasAmong}
use Rattle.lab_drawing.proofs.readers.graph_without.Given as goal

-- the arrows to the nodes so far were added
abbrev pub invariant-loop-to : goal.invariant-loop-to
invariant-loop-to l = record { size : nodes_of l.graph ≡ l.count; first : HasAmong l.ties l.fn.txn l.all l.to l.graph }
