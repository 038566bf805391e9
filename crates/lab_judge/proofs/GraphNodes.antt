-- The nodes of a graph, and of its orders.
use Rattle.std.{proofs.{Common.{◌≡◌, ℕ, ◌<◌, ◌≤◌, ◌==◌, true, cond, List, [], nat_lt, refl, ap, arith, inl, inr}, lemmas.{Bool.{both_ways, cases_lt, ltb-true, lt-ltb, Decides.{Decides-eqb}}, List.{get_or_past, Elements.{All-weaker}}}}, specs.{Prelude.{Contains}, List.{All, list_any}}}
use Rattle.lab_order.specs.{Arrows.{Arrows, nodes_of, has_arrow, IsArrow, IsGraph}, Order.{position}}
use Rattle.lab_order.specs.Order as order
use Rattle.lab_deps.proofs.Places.{times, times_count}
use Rattle.lab_judge.proofs.{LabelledKnots.{ring_all}, Labels.{AreThings, IsOrderOf, all_there}, Numbers.{contains_it}, SeenVersions.{at_most_one}}

module _ (graph : Arrows) (g : IsGraph graph) where
  -- an arrow's ends are nodes
  pub ends : (a b : ℕ) → IsArrow graph a b → (nat_lt a (nodes_of graph) ≡ true) × (nat_lt b (nodes_of graph) ≡ true)
  ends a b arrow = (lt-ltb a (nodes_of graph) (g.within a b arrow), (elim (cases_lt b (nodes_of graph)) [ inl less ↦ lt-ltb b (nodes_of graph) less | inr past ↦ absurd (bare past) ]))
    where
      bare : nodes_of graph ≤ b → ⊥
      bare past = both_ways (has_arrow graph a b) (ap (list_any (λ n. n == a)) (get_or_past graph b [] past)) arrow

  pub node_things : AreThings (λ m n. m == n) position (λ a. nat_lt a (nodes_of graph)) (IsArrow graph)
  node_things = record { decides = Decides-eqb; next = λ m ms n. refl; ends = ends }

  -- the nodes of a cycle are nodes of the graph
  pub circle_within : (circle : List ℕ) → order.IsCircle graph circle → All (λ a. a < nodes_of graph) circle
  circle_within circle c = ring_all (λ a. a < nodes_of graph) (IsArrow graph) (λ a b arrow. g.within a b arrow) circle c

  module _ (ns : List ℕ) (o : order.IsOrder graph ns) where
    pub as_order : IsOrderOf (λ m n. m == n) position (λ a. nat_lt a (nodes_of graph)) (IsArrow graph) ns
    as_order = record { each_once = o.each_once; forward = o.forward }

    -- each node of an order is one of the graph
    pub within : All (λ a. a < nodes_of graph) ns
    within = All-weaker (λ a. nat_lt a (nodes_of graph) ≡ true) (λ a. a < nodes_of graph) (λ a e. ltb-true a (nodes_of graph) e) ns (all_there node_things ns as_order)

-- each node comes once in an order
pub once_in : (graph : Arrows) (ns : List ℕ) → order.HoldsEachOnce graph ns → (a : ℕ) → times a ns ≤ 1
once_in graph ns each a = omega (arith, times_count a ns, each a, at_most_one (nat_lt a (nodes_of graph)))

-- and is there
pub in_order : (graph : Arrows) (ns : List ℕ) → order.HoldsEachOnce graph ns → (a : ℕ) → a < nodes_of graph → Contains ns a
in_order graph ns each a lt = contains_it ns a (omega (arith, times_count a ns, each a, ap {B = ℕ} (λ b. cond b 1 0) (lt-ltb a (nodes_of graph) lt)))
