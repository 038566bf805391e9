-- For each node, the set of nodes from which a path leads to it.
--
-- Origin: S. Warshall, "A Theorem on Boolean Matrices" (1962).
use Rattle.std.specs.Prelude.{◌≡◌, ℕ, ◌<◌, ◌↔◌, Bool, List, [], length, slice_index_or, IsTrue}
use Rattle.lab_sets.specs.Sets.{has}
use Rattle.lab_order.specs.Arrows.{Arrows, nodes_of}
use Rattle.lab_order.specs.Path.{Reaches}

-- whether a node is in the set of another
abbrev pub leads_by : List (List ℕ) → ℕ → ℕ → Bool
leads_by sets from to = has (slice_index_or sets to []) from

-- each node's set has exactly the nodes from which a path leads to it
pub record AreWays (graph : Arrows) (sets : List (List ℕ)) : Type 0 where
  pub size : length sets ≡ nodes_of graph
  pub exact : (from to : ℕ) → to < nodes_of graph → IsTrue (leads_by sets from to) ↔ Reaches graph from to
