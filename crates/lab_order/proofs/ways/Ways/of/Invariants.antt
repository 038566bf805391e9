use Rattle.std.{proofs.Common.{◌≡◌, length}, specs.List.{All}}
use Rattle.lab_sets.specs.Sets.{room, room_for}
use Rattle.lab_order.{specs.{Arrows.{nodes_of}, Ways.{leads_by}}, proofs.Closure.{AreWaysBelow}}
use Rattle.lab_order.proofs.ways.Ways.of.Given as goal

-- the sets tell of the ways through the nodes so far
abbrev pub invariant-loop-node : goal.invariant-loop-node
invariant-loop-node l = record {
  size : length l.sets.items ≡ nodes_of l.graph;
  rooms : All (λ s. room s ≡ room_for (nodes_of l.graph)) l.sets.items;
  room : room l.through ≡ room_for (nodes_of l.graph);
  below : AreWaysBelow l.graph l.node (leads_by l.sets.items);
}
