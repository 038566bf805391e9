-- What the order of a graph says of the history whose dependencies are its arrows.
use Rattle.std.{proofs.{Common.{◌≡◌, ℕ, ◌<◌, ◌==◌, true, List, map, slice_index, length, nat_lt, refl, sym, ap, subst}, lemmas.Bool.{ltb-true, lt-ltb, Decides.{Decides-eqb}}}}
use Rattle.lab_order.specs.{Arrows.{Arrows, nodes_of, IsArrow, IsGraph}, Least.{IsLess, NotAfter, IsLeast}, Order.{position}}
use Rattle.lab_order.specs.Order as order
use Rattle.lab_history.specs.{History.{History}, Version.{IsCommitted, outcome_of}}
use Rattle.lab_deps.{specs.{Edges.{IsEdge}, KindSets.{among, is_any}, KindsBetween.{KindsBetween}, Soundness.{has_committed}, declared.{edge.Edge.{Edge}, kinds.TheConstants.Kinds.{ALL}}}, proofs.{Found.{committed as is_committed}, NamedKinds.{all_has}}}
use Rattle.lab_judge.specs.{Runs.{HoldsEachOnce}, Places.{IsForwardOrder}, Graphs.{Tie, IsGraphOf, IsNetOf}}
use Rattle.lab_judge.proofs.{GraphNodes.{node_things, as_order}, Labels.{AreThings, AreLabels, IsOrderOf, labelled, not_after}, Lists.{of_both}, Nets.{rises, node_again, node_within, number_again, commits_at, tie_of, net_for}, Numbers.{read}}

-- one depends on another
abbrev Depends : History → ℕ → ℕ → Type 0
Depends h m n = (e : Edge) × IsEdge h e × (e.from ≡ m) × (e.to ≡ n)

-- the committed transactions, by their numbers
number_things : (h : History) → AreThings (λ m n. m == n) position (λ n. has_committed (outcome_of h n)) (Depends h)
number_things h = record {
  decides = Decides-eqb;
  next = λ m ms n. refl;
  ends = λ m n d. (ap has_committed (subst (IsCommitted h) d.2 d.1.0), ap has_committed (subst (IsCommitted h) d.3 d.1.1));
}

module _ {h : History} {net : KindsBetween} (of : IsNetOf h is_any net) (graph : Arrows) (g : IsGraph graph) (is : IsGraphOf (among ALL) net graph) where
  abbrev ns : List ℕ
  ns = net.numbers

  abbrev once : HoldsEachOnce h ns
  once = of.committed.each_once

  inside : (a : ℕ) → nat_lt a (nodes_of graph) ≡ true → a < length ns
  inside a lt = subst (λ k. a < k) is.size (ltb-true a (nodes_of graph) lt)

  -- an arrow is a dependency
  arrow_is : (a b : ℕ) → IsArrow graph a b → Depends h (slice_index ns a) (slice_index ns b)
  arrow_is a b arrow =
      let t : Tie (among ALL) net a b = (is.arrows a b).0 arrow in
      (t.edge, of.edges t.edge t.is_one, sym (read ns a t.edge.from t.from), sym (read ns b t.edge.to t.to))

  -- and a dependency an arrow
  has_it : (m n : ℕ) → Depends h m n → IsArrow graph (position ns m) (position ns n)
  has_it m n (e, edge, from, to) =
      of_both (λ a b. IsArrow graph (position ns a) (position ns b)) from to
      ((is.arrows (position ns e.from) (position ns e.to)).1 (tie_of (net_for (among ALL) of) e edge (all_has e.kind)))

  -- transactions are labels of the nodes
  labels : AreLabels (λ a. nat_lt a (nodes_of graph)) (IsArrow graph) (λ n. has_committed (outcome_of h n)) (Depends h) (slice_index ns) (position ns)
  labels = record {
    goes = λ a lt. ap has_committed (commits_at h ns once a (inside a lt));
    comes = λ n c. lt-ltb (position ns n) (nodes_of graph) (subst (λ k. position ns n < k) (sym is.size) (node_within h ns once n (is_committed (outcome_of h n) c)));
    back = λ a lt. node_again ns of.committed.rising a (inside a lt);
    again = λ n c. number_again h ns once n (is_committed (outcome_of h n) c);
    to = arrow_is;
    from = has_it;
  }

  -- the numbers of the least order are the due order
  pub due_order : (placed : List ℕ) → IsLeast (order.IsOrder graph) placed → (made : List ℕ) → made ≡ map (slice_index ns) placed
      → HoldsEachOnce h made × IsForwardOrder h made × ((other : List ℕ) → HoldsEachOnce h other → IsForwardOrder h other → NotAfter made other)
  due_order placed l made same =
      let o : IsOrderOf (λ m n. m == n) position (λ n. has_committed (outcome_of h n)) (Depends h) (map (slice_index ns) placed)
      = labelled (node_things graph g) (number_things h) (λ _ _. refl) (slice_index ns) (position ns) labels placed (as_order graph g placed l.is_one) in
      subst (λ made. HoldsEachOnce h made × IsForwardOrder h made × ((other : List ℕ) → HoldsEachOnce h other → IsForwardOrder h other → NotAfter made other)) (sym same) (
        o.each_once,
        λ e edge. o.forward e.from e.to (e, edge, refl, refl),
        λ other each ahead.
            not_after (node_things graph g) (number_things h) (λ _ _. refl) (slice_index ns) (position ns) labels IsLess IsLess (λ a b lt less. rises ns of.committed.rising a b less (inside b lt)) placed
            (λ nodes o. l.least nodes (record { each_once = o.each_once; forward = o.forward })) other
            (record { each_once = each; forward = λ m n d. of_both (λ a b. position other a < position other b) d.2 d.3 (ahead d.0 d.1) }),
      )
