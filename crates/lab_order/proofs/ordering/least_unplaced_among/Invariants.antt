use Rattle.lab_order.proofs.LeastUnplaced.{IsLeastUnplaced}
use Rattle.lab_order.proofs.ordering.least_unplaced_among.Given as goal

-- the least is that of the nodes so far
abbrev pub invariant-loop-node : goal.invariant-loop-node
invariant-loop-node l = IsLeastUnplaced l.placed l.nodes l.node-index l.least
