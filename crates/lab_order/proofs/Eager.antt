-- Orders in which next comes each time the least node that may be placed.
use Rattle.std.proofs.{Common.{◌≡◌, ◌⊎◌, inl, inr, ℕ, suc, ◌+◌, ◌<◌, ◌≤◌, refl, sym, ap, subst, ◌∙◌, arith, Bool, true, false, cond, not, ◌&&◌, List, [], ◌∷◌, ◌++◌, length, set, zero-add}, lemmas.{Bool.{eq-eqb, both_ways, cases_lt, ltb-true}, List.{length-set}}}
use Rattle.std.specs.{Prelude.{◌==◌, IsTrue, nat_lt, ⊤}, List.{count_by}}
use Rattle.lab_order.{specs.{Arrows.{Arrows, nodes_of, has_arrow}, Least.{NotAfter, IsLeast}, Order.{position, IsOrder}, Placing.{is_marked, IsFree}}, proofs.{Writes.{set_read}, MarkedCounts.{one_if, counted}}}

-- which nodes are placed once these are, too
abbrev pub placed_after : List Bool → List ℕ → List Bool
placed_after placed [] = placed
placed_after placed (n ∷ ns) = placed_after (set placed n true) ns

-- each of these nodes is the least that is free when it is placed
abbrev pub IsEager : Arrows → List Bool → List ℕ → Type 0
IsEager graph placed [] = ⊤
IsEager graph placed (n ∷ ns) = ((k : ℕ) → k < n → ¬ IsFree graph placed k) × IsEager graph (set placed n true) ns

-- so they were placed from the first on
pub record IsPlacedEagerly (graph : Arrows) (placed : List Bool) (order : List ℕ) : Type 0 where
  pub bare : List Bool
  pub none : (n : ℕ) → is_marked bare n ≡ false
  pub size : length bare ≡ nodes_of graph
  pub now : placed ≡ placed_after bare order
  pub eager : IsEager graph bare order

-- before the first node is placed
pub eager_first : (graph : Arrows) (placed : List Bool) (order : List ℕ) → order ≡ [] → ((n : ℕ) → is_marked placed n ≡ false) → length placed ≡ nodes_of graph → IsPlacedEagerly graph placed order
eager_first graph placed order empty none size = record {
  bare = placed;
  none = none;
  size = size;
  now = ap (placed_after placed) (sym empty);
  eager = subst (IsEager graph placed) (sym empty) tt;
}

-- and with one node more, the least that is free
pub eager_next : (graph : Arrows) (placed : List Bool) (order new : List ℕ) (node : ℕ) → new ≡ order ++ node ∷ [] → IsPlacedEagerly graph placed order
    → ((k : ℕ) → k < node → ¬ IsFree graph placed k) → IsPlacedEagerly graph (set placed node true) new
eager_next graph placed order new node pushed h least = record {
  bare = h.bare;
  none = h.none;
  size = h.size;
  now = ap (λ marks. set marks node true) h.now ∙ after h.bare order ∙ ap (placed_after h.bare) (sym pushed);
  eager = subst (IsEager graph h.bare) (sym pushed) (more h.bare order h.eager (subst (λ marks. (k : ℕ) → k < node → ¬ IsFree graph marks k) h.now least));
}
  where
    after : (marks : List Bool) (ns : List ℕ) → set (placed_after marks ns) node true ≡ placed_after marks (ns ++ node ∷ [])
    after marks [] = refl
    after marks (n ∷ ns) = after (set marks n true) ns

    more : (marks : List Bool) (ns : List ℕ) → IsEager graph marks ns → ((k : ℕ) → k < node → ¬ IsFree graph (placed_after marks ns) k) → IsEager graph marks (ns ++ node ∷ [])
    more marks [] eager none = (none, tt)
    more marks (n ∷ ns) eager none = (eager.0, more (set marks n true) ns eager.1 none)

-- the nodes that aren't placed stand in the list once, each behind those of its predecessors that aren't placed either
pub record IsRest (graph : Arrows) (placed : List Bool) (nodes : List ℕ) : Type 0 where
  pub once : (node : ℕ) → count_by (λ n. n == node) nodes ≡ one_if (not (is_marked placed node) && nat_lt node (nodes_of graph))
  pub behind : (from to : ℕ) → IsTrue (has_arrow graph from to) → is_marked placed to ≡ false → (is_marked placed from ≡ true) ⊎ (position nodes from < position nodes to)

-- an order is what is left before the first node is placed
pub whole_rest : (graph : Arrows) (placed : List Bool) (order : List ℕ) → ((n : ℕ) → is_marked placed n ≡ false) → IsOrder graph order → IsRest graph placed order
whole_rest graph placed order none h = record {
  once = λ node. h.each_once node ∙ ap (λ b. one_if (not b && nat_lt node (nodes_of graph))) (sym (none node));
  behind = λ from to arrow unplaced. inr (h.forward from to arrow);
}

-- the first of what is left is free
pub first_free : (graph : Arrows) (placed : List Bool) (node : ℕ) (nodes : List ℕ) → IsRest graph placed (node ∷ nodes) → IsFree graph placed node
first_free graph placed node nodes h = record {
  within = ltb-true node (nodes_of graph) both.1;
  unplaced = both.0;
  ready = λ from arrow. ready from (h.behind from node arrow both.0);
}
  where
    some : (b c : Bool) → 0 < one_if (not b && c) → (b ≡ false) × (c ≡ true)
    some true c lt = absurd (omega arith)
    some false true lt = (refl, refl)
    some false false lt = absurd (omega arith)

    both : (is_marked placed node ≡ false) × (nat_lt node (nodes_of graph) ≡ true)
    both =
        let one : one_if (node == node) ≡ 1 = ap one_if (eq-eqb node node refl) in
        let c : count_by (λ n. n == node) (node ∷ nodes) ≡ one_if (node == node) + count_by (λ n. n == node) nodes = counted (λ n. n == node) node nodes in
        let e : count_by (λ n. n == node) (node ∷ nodes) ≡ one_if (not (is_marked placed node) && nat_lt node (nodes_of graph)) = h.once node in
        some (is_marked placed node) (nat_lt node (nodes_of graph)) (omega arith)

    at_head : position (node ∷ nodes) node ≡ 0
    at_head = ap (λ b. cond b 0 (suc (position nodes node))) (eq-eqb node node refl)

    ready : (from : ℕ) → (is_marked placed from ≡ true) ⊎ (position (node ∷ nodes) from < position (node ∷ nodes) node) → is_marked placed from ≡ true
    ready from (inl marked) = marked
    ready from (inr less) = absurd (omega (arith, at_head, less))

-- and the others are what is left once it is placed
pub other_rest : (graph : Arrows) (placed : List Bool) (node : ℕ) (nodes : List ℕ) → length placed ≡ nodes_of graph → IsRest graph placed (node ∷ nodes)
    → IsRest graph (set placed node true) nodes
other_rest graph placed node nodes size h = record { once = once; behind = behind }
  where
    free : IsFree graph placed node
    free = first_free graph placed node nodes h

    marks : (n : ℕ) → is_marked (set placed node true) n ≡ cond (node == n) true (is_marked placed n)
    marks n = set_read placed node n true false (omega (arith, free.within, size))

    once : (n : ℕ) → count_by (λ m. m == n) nodes ≡ one_if (not (is_marked (set placed node true) n) && nat_lt n (nodes_of graph))
    once n = at (node == n) refl (sym (counted (λ m. m == n) node nodes) ∙ h.once n) ∙ ap (λ b. one_if (not b && nat_lt n (nodes_of graph))) (sym (marks n))
      where
        few : (b : Bool) → one_if b ≤ 1
        few true = omega arith
        few false = omega arith

        at : (b : Bool) → (node == n) ≡ b → one_if b + count_by (λ m. m == n) nodes ≡ one_if (not (is_marked placed n) && nat_lt n (nodes_of graph))
            → count_by (λ m. m == n) nodes ≡ one_if (not (cond b true (is_marked placed n)) && nat_lt n (nodes_of graph))
        at true q e = let le : one_if (not (is_marked placed n) && nat_lt n (nodes_of graph)) ≤ 1 = few (not (is_marked placed n) && nat_lt n (nodes_of graph)) in omega arith
        at false q e = sym (zero-add (count_by (λ m. m == n) nodes)) ∙ e

    behind : (from to : ℕ) → IsTrue (has_arrow graph from to) → is_marked (set placed node true) to ≡ false
        → (is_marked (set placed node true) from ≡ true) ⊎ (position nodes from < position nodes to)
    behind from to arrow unplaced = at (node == to) refl (sym (marks to) ∙ unplaced)
      where
        kept : is_marked placed from ≡ true → is_marked (set placed node true) from ≡ true
        kept marked = marks from ∙ by (node == from)
          where
            by : (b : Bool) → cond b true (is_marked placed from) ≡ true
            by true = refl
            by false = marked

        before : (b : Bool) → (node == from) ≡ b → cond b 0 (suc (position nodes from)) < suc (position nodes to)
            → (is_marked (set placed node true) from ≡ true) ⊎ (position nodes from < position nodes to)
        before true q less = inl (marks from ∙ ap (λ b. cond b true (is_marked placed from)) q)
        before false q less = inr (omega arith)

        old : (node == to) ≡ false → (is_marked placed from ≡ true) ⊎ (position (node ∷ nodes) from < position (node ∷ nodes) to)
            → (is_marked (set placed node true) from ≡ true) ⊎ (position nodes from < position nodes to)
        old q (inl marked) = inl (kept marked)
        old q (inr less) = before (node == from) refl (subst (λ k. position (node ∷ nodes) from < k) (ap (λ b. cond b 0 (suc (position nodes to))) q) less)

        at : (b : Bool) → (node == to) ≡ b → cond b true (is_marked placed to) ≡ false → (is_marked (set placed node true) from ≡ true) ⊎ (position nodes from < position nodes to)
        at true q e = absurd (both_ways _ e refl)
        at false q e = old q (h.behind from to arrow e)

-- such a list comes after no other that may be placed instead
eager_not_after : (graph : Arrows) (placed : List Bool) (ns ms : List ℕ) → length placed ≡ nodes_of graph → IsEager graph placed ns → IsRest graph placed ns → IsRest graph placed ms
    → NotAfter ns ms
eager_not_after graph placed [] ms size eager h k = tt
eager_not_after graph placed (n ∷ ns) [] size eager h k =
    let free : IsFree graph placed n = first_free graph placed n ns h in
    let one : one_if (n == n) ≡ 1 = ap one_if (eq-eqb n n refl) in
    let c : count_by (λ m. m == n) (n ∷ ns) ≡ one_if (n == n) + count_by (λ m. m == n) ns = counted (λ m. m == n) n ns in
    let none : count_by (λ m. m == n) (n ∷ ns) ≡ 0 = h.once n ∙ sym (k.once n) in
    absurd (omega arith)
eager_not_after graph placed (n ∷ ns) (m ∷ ms) size eager h k =
    at (eager_not_after graph (set placed n true) ns ms (length-set placed n true ∙ size) eager.1 (other_rest graph placed n ns size h)) (cases_lt m n) (cases_lt n m)
  where
    at : (IsRest graph (set placed n true) ms → NotAfter ns ms) → (m < n) ⊎ (n ≤ m) → (n < m) ⊎ (m ≤ n) → (n < m) ⊎ ((n ≡ m) × NotAfter ns ms)
    at rest (inl less) any = absurd (eager.0 m less (first_free graph placed m ms k))
    at rest (inr le) (inl more) = inl more
    at rest (inr le) (inr ge) =
        let same : n ≡ m = omega arith in
        inr (same, rest (subst (λ node. IsRest graph (set placed node true) ms) (sym same) (other_rest graph placed m ms size k)))

-- an order that was placed so is the least of all orders
pub eager_is_least : (graph : Arrows) (placed : List Bool) (order : List ℕ) → IsPlacedEagerly graph placed order → IsOrder graph order → IsLeast (IsOrder graph) order
eager_is_least graph placed order h is = record {
  is_one = is;
  least = λ other there. eager_not_after graph h.bare order other h.size h.eager (whole_rest graph h.bare order h.none is) (whole_rest graph h.bare other h.none there);
}
