use Rattle.std.{proofs.Common.{◌≡◌, ◌||◌, ◌==◌, ◌<◌, ℕ, length}, specs.List.{All, list_any}}
use Rattle.lab_sets.specs.Sets.{room, room_for}
use Rattle.lab_order.specs.{Arrows.{nodes_of, before}, Ways.{leads_by}}
use Rattle.lab_order.proofs.ways.arrows_alone.Given as goal

-- the sets of the nodes so far
abbrev pub invariant-loop-node : goal.invariant-loop-node
invariant-loop-node l = record {
  size : length l.sets.items ≡ l.node;
  rooms : All (λ s. room s ≡ room_for (nodes_of l.graph)) l.sets.items;
  sets : (from to : ℕ) → to < l.node → leads_by l.sets.items from to ≡ (from == to || list_any (λ n. n == from) (before l.graph to));
}
