use Rattle.std.{proofs.Common.{take}, specs.Prelude.{◌↔◌, Contains}}
use Rattle.lab_history.specs.History.{History}
use Rattle.lab_deps.specs.{Edges.{IsEdge}, declared.edge.Edge.{Edge}}
use Rattle.lab_picture.specs.Forward.{AreLeastOf}
use Rattle.lab_picture.proofs.forward.least_of_all.Given as goal

-- the least of each two so far are found
abbrev pub invariant-loop-pair : goal.invariant-loop-pair
invariant-loop-pair l = (h : History) → ((e : Edge) → Contains l.edges.edges e ↔ IsEdge h e) → AreLeastOf h (take l.pair-index l.pairs) l.found.items
