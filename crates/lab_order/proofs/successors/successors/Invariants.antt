use Rattle.std.{proofs.Common.{◌≡◌, ℕ, cond, length}, specs.Prelude.{nat_lt}}
use Rattle.lab_order.specs.{Arrows.{nodes_of, before}, Counts.{how_often, after}}
use Rattle.lab_order.proofs.successors.successors.Given as goal

-- the arrows to the nodes so far are noted
abbrev pub invariant-loop-node : goal.invariant-loop-node
invariant-loop-node l = record {
  size : length l.rows.items ≡ nodes_of l.graph;
  noted : (from to : ℕ) → how_often (after l.rows.items from) to ≡ cond (nat_lt to l.node) (how_often (before l.graph to) from) 0;
}
