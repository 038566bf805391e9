use Rattle.std.proofs.Common.{◌≡◌, ◌*◌, ℕ}
use Rattle.lab_order.specs.Arrows.{nodes_of, has_arrow}
use Rattle.lab_judge.specs.PlaceGraphs.{spans}
use Rattle.lab_judge.proofs.place_graph.spans_graph.Given as goal

-- the arrows of the transactions so far
abbrev pub invariant-loop-place : goal.invariant-loop-place
invariant-loop-place l = record {
  size : nodes_of l.graph ≡ 2 * l.count;
  arrows : (a b : ℕ) → has_arrow l.graph a b ≡ spans l.place a b;
}
