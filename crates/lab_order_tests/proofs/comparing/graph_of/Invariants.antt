use Rattle.std.proofs.Common.{◌≡◌}
use Rattle.lab_order.specs.Arrows.{nodes_of}
use Rattle.lab_order_tests.proofs.comparing.graph_of.Given as goal

-- the graph keeps its nodes
abbrev pub invariant-loop-from : goal.invariant-loop-from
invariant-loop-from l = nodes_of l.graph ≡ l.nodes
