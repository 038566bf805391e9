-- The committed transactions of a history as nodes, and its edges as what ties them.
use Rattle.std.{proofs.{Common.{◌≡◌, ℕ, ◌<◌, Bool, true, false, Some, None, Option, Ok, Err, Result, IfOk, List, length, slice_index, refl, sym, ap, ◌∙◌, arith}, lemmas.{Map.Keys.{below_from_sorted, sorted_from_strictly_increasing}, Option.{slice_get-get_or}}}, specs.{Prelude.{Contains, IfSome, slice_get}, List.Sorted.{IsStrictlyIncreasing}, Ordering.{is_lt}}}
use Rattle.lab_order.specs.{Arrows.{Arrows}, Order.{position}}
use Rattle.lab_history.specs.{History.{History}, Version.{IsCommitted}}
use Rattle.lab_deps.{specs.{Edges.{IsEdge}, EdgeOrder.{edge_cmp}, KindSets.{is_any}, KindsBetween.{KindsBetween}, declared.edge.{Edge.{Edge}, Kind.{Kind}}}, proofs.Places.{at_times}}
use Rattle.lab_judge.{specs.{Graphs.{Tie, IsLeastTie, IsGraphOf, IsNetOf}, LeastWalks.{HasEdgeAt, IsEdgeGraph, IsLeastEdge}, Runs.{HoldsEachOnce}}, proofs.{Lists.{of_both}, Numbers.{contains_it, stands, read, at_its_place, position_within}, Orders.{committed_once, committed_in}}}

module _ (ns : List ℕ) (up : IsStrictlyIncreasing ns) where
  -- a greater node has a greater number
  pub rises : (a b : ℕ) → a < b → b < length ns → slice_index ns a < slice_index ns b
  rises a b l within = below_from_sorted ns a b 0 (sorted_from_strictly_increasing ns up) l within

  -- the node of what a node has is that node
  pub node_again : (a : ℕ) → a < length ns → position ns (slice_index ns a) ≡ a
  node_again a lt = at_its_place ns up a (slice_index ns a) (slice_get-get_or ns a 0 lt)

module _ (h : History) (ns : List ℕ) (once : HoldsEachOnce h ns) where
  -- a committed transaction is a node
  is_node : (n : ℕ) → IsCommitted h n → Contains ns n
  is_node n c = contains_it ns n (omega (arith, committed_once h ns once n c))

  -- and stands there
  pub stands_at : (n : ℕ) → IsCommitted h n → slice_get ns (position ns n) ≡ Some n
  stands_at n c = stands ns n (is_node n c)

  pub node_within : (n : ℕ) → IsCommitted h n → position ns n < length ns
  node_within n c = position_within ns n (is_node n c)

  pub number_again : (n : ℕ) → IsCommitted h n → slice_index ns (position ns n) ≡ n
  number_again n c = read ns (position ns n) n (stands_at n c)

  -- what a node has is committed
  pub commits_at : (a : ℕ) → a < length ns → IsCommitted h (slice_index ns a)
  commits_at a lt = committed_in h ns once (slice_index ns a) (at_times ns a (slice_index ns a) (slice_get-get_or ns a 0 lt))

module _ {h : History} {allowed : Kind → Bool} {net : KindsBetween} (of : IsNetOf h allowed net) where
  -- an edge of an allowed kind ties the nodes of its ends
  pub tie_of : (e : Edge) → IsEdge h e → allowed e.kind ≡ true → Tie allowed net (position net.numbers e.from) (position net.numbers e.to)
  tie_of e edge kind = record {
    edge = e;
    is_one = of.all e edge kind;
    kind = kind;
    from = stands_at h net.numbers of.committed.each_once e.from edge.0;
    to = stands_at h net.numbers of.committed.each_once e.to edge.1;
  }

  -- and what ties two nodes is such an edge
  edge_at : (a b : ℕ) → Tie allowed net a b → HasEdgeAt h allowed net.numbers a b
  edge_at a b t = (
    t.edge,
    of.edges t.edge t.is_one,
    t.kind,
    at_its_place net.numbers of.committed.rising a t.edge.from t.from,
    at_its_place net.numbers of.committed.rising b t.edge.to t.to,
  )

  -- so the graph of dependencies is that of edges
  pub edge_graph : (graph : Arrows) → IsGraphOf allowed net graph → IsEdgeGraph h allowed net.numbers graph
  edge_graph graph is = record {
    size = is.size;
    arrows = λ a b. (λ arrow. edge_at a b ((is.arrows a b).0 arrow), λ (e, edge, kind, from, to). (is.arrows a b).1 (of_both (Tie allowed net) from to (tie_of e edge kind)));
  }

  -- and the least of dependencies is the least edge
  pub least_edge : (a b : ℕ) (e : Edge) → IsLeastTie allowed net a b e → IsLeastEdge h allowed (slice_index net.numbers a) (slice_index net.numbers b) e
  least_edge a b e l =
      let from : slice_index net.numbers a ≡ e.from = read net.numbers a e.from l.from in
      let to : slice_index net.numbers b ≡ e.to = read net.numbers b e.to l.to in
      record { edge = of.edges e l.is_one; from = sym from; to = sym to; kind = l.kind; least = λ f edge first last kind. l.least f (of.all f edge kind) (first ∙ from) (last ∙ to) kind }

-- all edges hold those of each kind
pub net_for : {h : History} {net : KindsBetween} (a : Kind → Bool) → IsNetOf h is_any net → IsNetOf h a net
net_for a of = record { committed = of.committed; edges = of.edges; all = λ e edge kind. of.all e edge refl }

-- what is the least edge between two transactions is the least that ties their nodes
pub least_tie : (test : Kind → Bool) (net : KindsBetween) (a b n m : ℕ) → slice_get net.numbers a ≡ Some n → slice_get net.numbers b ≡ Some m
    → (E : Type 0) (r : Result (Option Edge) E) → IfOk r (λ found. IfSome found (Contains net.edges)) → IfOk r (λ found. IfSome found (λ e. e.from ≡ n)) → IfOk r (λ found. IfSome found (λ e. e.to ≡ m))
    → IfOk r (λ found. IfSome found (λ e. test e.kind ≡ true))
    → IfOk r (λ found. IfSome found (λ e. (f : Edge) → Contains net.edges f → f.from ≡ n → f.to ≡ m → test f.kind ≡ true → is_lt (edge_cmp f e) ≡ false)) → IfOk r (λ found. IfSome found (IsLeastTie test net a b))
least_tie test net a b n m from_is to_is E (Err x) there from to kind least = tt
least_tie test net a b n m from_is to_is E (Ok None) there from to kind least = tt
least_tie test net a b n m from_is to_is E (Ok (Some e)) there from to kind least = record {
  is_one = there;
  kind = kind;
  from = from_is ∙ ap Some (sym from);
  to = to_is ∙ ap Some (sym to);
  least = λ f in_net begins ends allowed. least f in_net (begins ∙ from) (ends ∙ to) allowed;
}
