-- Nodes that no order can place, beside the marks of those that are placed.
use Rattle.std.proofs.{Common.{◌≡◌, ◌⊎◌, inl, inr, ℕ, zero, suc, ◌<◌, refl, sym, ap, ◌∙◌, arith, Bool, true, false, not, ◌&&◌, ◌||◌, List, [], ◌∷◌}, lemmas.Bool.{eqb-true, eq-eqb, both_ways, ltb-true, lt-ltb, or_cases, or_left, or_right}}
use Rattle.std.specs.{Prelude.{◌==◌, IsTrue, nat_lt}, List.{All, Contains, list_any}}
use Rattle.lab_order.{specs.{Arrows.{Arrows, nodes_of, before, has_arrow, IsArrow, IsGraph}, Back.{IsStuck, IsBack}, Knots.{AreKnotted, IsLeastStuck}, Least.{IsLess}, Order.{position, IsOrder}, Placing.{is_marked, IsFree}, Steps.{is_in}}, proofs.{Free.{arrow_from}, Positions.{IsPlacing}}}

-- of nodes that are knotted none stands before all others
descends : (graph : Arrows) (order : List ℕ) (nodes : ℕ → Bool) → AreKnotted (IsArrow graph) nodes
    → ((from to : ℕ) → IsTrue (has_arrow graph from to) → IsTrue (nodes to) → position order from < position order to)
    → (bound n : ℕ) → position order n < bound → IsTrue (nodes n) → ⊥
descends graph order nodes knotted forward zero n lt is = absurd (omega arith)
descends graph order nodes knotted forward (suc bound) n lt is =
    let k : (from : ℕ) × IsTrue (nodes from) × IsTrue (has_arrow graph from n) = knotted n is in
    let less : position order k.0 < position order n = forward k.0 n k.2 is in
    descends graph order nodes knotted forward bound k.0 (omega arith) k.1

-- where there is an order, no node is stuck
pub order_excludes : (graph : Arrows) (order : List ℕ) (node : ℕ) → IsOrder graph order → IsStuck graph node → ⊥
order_excludes graph order node h (nodes, is, knotted) =
    descends graph order nodes knotted (λ from to arrow there. h.forward from to arrow) (suc (position order node)) node (omega arith) is

-- of some nodes one isn't marked, or all are
some_unmarked : (marks : List Bool) (xs : List ℕ) → ((n : ℕ) × IsTrue (is_in xs n) × (is_marked marks n ≡ false)) ⊎ ((n : ℕ) → IsTrue (is_in xs n) → is_marked marks n ≡ true)
some_unmarked marks [] = inr (λ n there. absurd (both_ways _ refl there))
some_unmarked marks (x ∷ xs) = at (some_unmarked marks xs) (is_marked marks x) refl
  where
    at : ((n : ℕ) × IsTrue (is_in xs n) × (is_marked marks n ≡ false)) ⊎ ((n : ℕ) → IsTrue (is_in xs n) → is_marked marks n ≡ true) → (b : Bool) → is_marked marks x ≡ b
        → ((n : ℕ) × IsTrue (is_in (x ∷ xs) n) × (is_marked marks n ≡ false)) ⊎ ((n : ℕ) → IsTrue (is_in (x ∷ xs) n) → is_marked marks n ≡ true)
    at rest false m = inl (x, or_left (x == x) (is_in xs x) (eq-eqb x x refl), m)
    at (inl (n, there, unmarked)) true m = inl (n, or_right (x == n) (is_in xs n) there, unmarked)
    at (inr all) true m = inr (λ n there. by n (or_cases (x == n) (is_in xs n) there))
      where
        by : (n : ℕ) → ((x == n) ≡ true) ⊎ (is_in xs n ≡ true) → is_marked marks n ≡ true
        by n (inl same) = ap (is_marked marks) (sym (eqb-true x n same)) ∙ m
        by n (inr there) = all n there

module _ (graph : Arrows) (placed : List Bool) (order : List ℕ) (placing : IsPlacing graph placed order) where
  -- what is placed isn't stuck
  pub placed_loose : (node : ℕ) → is_marked placed node ≡ true → IsStuck graph node → ⊥
  placed_loose node marked (nodes, is, knotted) = both (suc (position order node)) node (omega arith) marked is
    where
      both : (bound n : ℕ) → position order n < bound → is_marked placed n ≡ true → IsTrue (nodes n) → ⊥
      both zero n lt m is = absurd (omega arith)
      both (suc bound) n lt m is =
          let k : (from : ℕ) × IsTrue (nodes from) × IsTrue (has_arrow graph from n) = knotted n is in
          let less : (is_marked placed k.0 ≡ true) × (position order k.0 < position order n) = placing.behind k.0 n k.2 m in
          both bound k.0 (omega arith) less.0 k.1

module _ (graph : Arrows) (placed : List Bool) (is_graph : IsGraph graph) (none : (node : ℕ) → IsFree graph placed node → ⊥) where
  -- the nodes that aren't placed
  abbrev unplaced : ℕ → Bool
  unplaced n = not (is_marked placed n) && nat_lt n (nodes_of graph)

  is_unplaced : (n : ℕ) → is_marked placed n ≡ false → n < nodes_of graph → IsTrue (unplaced n)
  is_unplaced n unmarked lt = ap (λ b. not b && nat_lt n (nodes_of graph)) unmarked ∙ lt-ltb n (nodes_of graph) lt

  unmarked_of : (n : ℕ) (b c : Bool) → is_marked placed n ≡ b → (not b && c) ≡ true → (is_marked placed n ≡ false) × (c ≡ true)
  unmarked_of n true c m q = absurd (both_ways _ refl q)
  unmarked_of n false c m q = (m, q)

  -- where none is free, none of them can come first
  knotted : AreKnotted (IsArrow graph) unplaced
  knotted n is = at (some_unmarked placed (before graph n))
    where
      here : (is_marked placed n ≡ false) × (nat_lt n (nodes_of graph) ≡ true)
      here = unmarked_of n (is_marked placed n) (nat_lt n (nodes_of graph)) refl is

      at : ((k : ℕ) × IsTrue (is_in (before graph n) k) × (is_marked placed k ≡ false)) ⊎ ((k : ℕ) → IsTrue (is_in (before graph n) k) → is_marked placed k ≡ true)
          → (from : ℕ) × IsTrue (unplaced from) × IsTrue (has_arrow graph from n)
      at (inl (k, there, unmarked)) = (k, is_unplaced k unmarked (is_graph.within k n there), there)
      at (inr all) = absurd (none n (record { within = ltb-true n (nodes_of graph) here.1; unplaced = here.0; ready = all }))

  -- so they are stuck
  pub unplaced_stuck : (node : ℕ) → is_marked placed node ≡ false → node < nodes_of graph → IsStuck graph node
  unplaced_stuck node unmarked lt = (unplaced, is_unplaced node unmarked lt, knotted)

  module _ (loose : (node : ℕ) → is_marked placed node ≡ true → IsStuck graph node → ⊥) where
    -- the least that isn't placed is the least that is stuck
    pub least_stuck : (node : ℕ) → is_marked placed node ≡ false → node < nodes_of graph → ((k : ℕ) → k < node → is_marked placed k ≡ true) → IsLeastStuck IsLess (IsArrow graph) node
    least_stuck node unmarked lt least = record { stuck = unplaced_stuck node unmarked lt; least = λ k less. loose k (least k less) }

    -- and the least before a node that isn't placed comes back from it
    pub comes_back : (node from : ℕ) (nodes : List ℕ) → nodes ≡ before graph node → Contains nodes from → is_marked placed from ≡ false
        → All (λ n. n < from → is_marked placed n ≡ true) nodes → IsBack graph from node
    comes_back node from nodes same there unmarked least = record {
      arrow = arrow;
      stuck = unplaced_stuck from unmarked (is_graph.within from node arrow);
      least = λ k less before_it. loose k (below nodes k less least (ap (list_any (λ n. n == k)) same ∙ before_it));
    }
      where
        arrow : IsTrue (has_arrow graph from node)
        arrow = arrow_from graph node nodes from same there

        below : (xs : List ℕ) (k : ℕ) → k < from → All (λ n. n < from → is_marked placed n ≡ true) xs → IsTrue (is_in xs k) → is_marked placed k ≡ true
        below [] k less all h = absurd (both_ways _ refl h)
        below (x ∷ xs) k less all h = at (below xs k less (λ i d lt. all (suc i) d (omega arith))) (x == k) refl h
          where
            at : (IsTrue (is_in xs k) → is_marked placed k ≡ true) → (b : Bool) → (x == k) ≡ b → (b || is_in xs k) ≡ true → is_marked placed k ≡ true
            at rest true q h =
                let e : x ≡ k = eqb-true x k q in
                ap (is_marked placed) (sym e) ∙ all 0 x (omega arith) (omega arith)
            at rest false q h = rest h
