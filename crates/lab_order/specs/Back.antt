-- The cycle that is found by going back from the nodes of a graph that no order can place.
use Rattle.std.specs.Prelude.{ℕ, List}
use Rattle.lab_order.specs.Arrows.{Arrows, IsArrow}
use Rattle.lab_order.specs.Knots as knots
use Rattle.lab_order.specs.Least.{IsLess}

-- a node that no order can place
abbrev pub IsStuck : Arrows → ℕ → Type 0
IsStuck graph node = knots.IsStuck (IsArrow graph) node

-- back from a node comes the least of its stuck predecessors
abbrev pub IsBack : Arrows → ℕ → ℕ → Type 0
IsBack graph from node = knots.IsBack IsLess (IsArrow graph) from node

-- one comes from the least stuck node back to this one
abbrev pub IsMet : Arrows → ℕ → Type 0
IsMet graph node = knots.IsMet IsLess (IsArrow graph) node

-- the cycle on the way back from the least stuck node
abbrev pub IsBackCircle : Arrows → List ℕ → Type 0
IsBackCircle graph circle = knots.IsBackCircle IsLess (IsArrow graph) circle
