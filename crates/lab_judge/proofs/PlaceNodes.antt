-- Starts and commits as nodes of a graph, and its arrows.
use Rattle.std.proofs.{Common.{◌≡◌, ℕ, ◌+◌, ◌*◌, ◌/◌, ◌%◌, Bool, cond, List, slice_index, refl, sym, ap, ◌∙◌, subst, arith, inl, inr}, lemmas.Bool.{eq-eqb}}
use Rattle.std.specs.Prelude.{◌==◌}
use Rattle.lab_order.specs.{Arrows.{Arrows}, Order.{position}}
use Rattle.lab_order.specs.Arrows as arrows
use Rattle.lab_history.specs.{History.{History}, Version.{IsCommitted}}
use Rattle.lab_deps.specs.{KindSets.{is_any}, KindsBetween.{KindsBetween}, declared.edge.Kind.{Kind}}
use Rattle.lab_judge.specs.{Graphs.{Tie, IsNetOf}, Joining.{start_node, commit_node, tail, head, Lands}, Places.{is_anti, is_flow, HasEdge, IsArrow}, PlaceGraphs.{IsPlaceGraph, point_at}, LeastPlaces.{txn_of}, declared.{joining.Joining.{Joining, TheVariants.{StartToCommit, CommitToStart}}, places.Point.{Point, TheVariants.{Start, Commit}}}}
use Rattle.lab_judge.proofs.{Lists.{of_both}, Nets.{commits_at, node_within, number_again, tie_of, net_for}, Numbers.{read}}

-- the point at a start's node
pub point_start : (ns : List ℕ) (p : ℕ) → point_at ns (start_node p) ≡ Start (slice_index ns p)
point_start ns p =
    let even : 2 * p % 2 ≡ 0 = omega arith in
    let half : 2 * p / 2 ≡ p = omega arith in
    ap (λ b. cond b (Start (slice_index ns (2 * p / 2))) (Commit (slice_index ns (2 * p / 2)))) (eq-eqb (2 * p % 2) 0 even) ∙ ap (λ k. Start (slice_index ns k)) half

-- and at a commit's node
pub point_commit : (ns : List ℕ) (p : ℕ) → point_at ns (commit_node p) ≡ Commit (slice_index ns p)
point_commit ns p =
    let odd : (2 * p + 1) % 2 ≡ 1 = omega arith in
    let half : (2 * p + 1) / 2 ≡ p = omega arith in
    ap (λ k. cond (k == 0) (Start (slice_index ns ((2 * p + 1) / 2))) (Commit (slice_index ns ((2 * p + 1) / 2)))) odd ∙ ap (λ k. Commit (slice_index ns k)) half

-- the node of a point
abbrev pub node_of : List ℕ → Point → ℕ
node_of ns (Start n) = start_node (position ns n)
node_of ns (Commit n) = commit_node (position ns n)

-- both ends of an arrow are of committed transactions
abbrev pub IsOfCommitted : History → Point → Type 0
IsOfCommitted h p = IsCommitted h (txn_of p)

pub ends : (h : History) (p q : Point) → IsArrow h p q → IsOfCommitted h p × IsOfCommitted h q
ends h (Start m) (Commit n) (inl (c, same)) = (c, subst (IsCommitted h) same c)
ends h (Start m) (Commit n) (inr (e, edge, from, to, kind)) = (subst (IsCommitted h) from edge.0, subst (IsCommitted h) to edge.1)
ends h (Commit m) (Start n) (e, edge, from, to, kind) = (subst (IsCommitted h) from edge.0, subst (IsCommitted h) to edge.1)
ends h p q arrow = absurd arrow

module _ {h : History} {net : KindsBetween} (of : IsNetOf h is_any net) where
  abbrev ns : List ℕ
  ns = net.numbers

  -- the point at the node of a point is that point
  pub point_again : (p : Point) → IsOfCommitted h p → point_at ns (node_of ns p) ≡ p
  point_again (Start n) c = point_start ns (position ns n) ∙ ap Start (number_again h ns of.committed.each_once n c)
  point_again (Commit n) c = point_commit ns (position ns n) ∙ ap Commit (number_again h ns of.committed.each_once n c)

  -- what ties two nodes is an edge between their transactions
  edge_of : (test : Kind → Bool) (a b : ℕ) → Tie test net a b → HasEdge h test (slice_index ns a) (slice_index ns b)
  edge_of test a b t = (t.edge, of.edges t.edge t.is_one, sym (read ns a t.edge.from t.from), sym (read ns b t.edge.to t.to), t.kind)

  -- and the arrow of such an edge leads from node to node
  lands : (test : Kind → Bool) (joining : Joining) (m n : ℕ) → HasEdge h test m n → Lands test joining net (tail joining (position ns m)) (head joining (position ns n))
  lands test joining m n (e, edge, from, to, kind) = record {
    from = position ns m;
    to = position ns n;
    tie = of_both (λ a b. Tie test net (position ns a) (position ns b)) from to (tie_of (net_for test of) e edge kind);
    tail_is = refl;
    head_is = refl;
  }

  module _ (graph : Arrows) (is : IsPlaceGraph net graph) where
    -- each arrow of the graph is one between points
    pub arrow_is : (a b : ℕ) → arrows.IsArrow graph a b → IsArrow h (point_at ns a) (point_at ns b)
    arrow_is a b arrow = elim ((is.arrows a b).0 arrow) [
      | inl s ↦ of_both (IsArrow h) (sym (point_start ns s.0) ∙ ap (point_at ns) s.2.0) (sym (point_commit ns s.0) ∙ ap (point_at ns) s.2.1)
          (inl (commits_at h ns of.committed.each_once s.0 s.1, refl))
      | inr (inl l) ↦ of_both (IsArrow h) (sym (point_commit ns l.from) ∙ ap (point_at ns) l.tail_is) (sym (point_start ns l.to) ∙ ap (point_at ns) l.head_is)
          (edge_of is_flow l.from l.to l.tie)
      | inr (inr l) ↦ of_both (IsArrow h) (sym (point_start ns l.from) ∙ ap (point_at ns) l.tail_is) (sym (point_commit ns l.to) ∙ ap (point_at ns) l.head_is)
          (inr (edge_of is_anti l.from l.to l.tie))
    ]

    -- and each arrow between points is one of the graph
    pub has_it : (p q : Point) → IsArrow h p q → arrows.IsArrow graph (node_of ns p) (node_of ns q)
    has_it (Start m) (Commit n) (inl (c, same)) =
        (is.arrows (start_node (position ns m)) (commit_node (position ns n))).1
        (inl (position ns m, node_within h ns of.committed.each_once m c, (refl, ap (λ k. commit_node (position ns k)) same)))
    has_it (Start m) (Commit n) (inr edge) = (is.arrows (start_node (position ns m)) (commit_node (position ns n))).1 (inr (inr (lands is_anti StartToCommit m n edge)))
    has_it (Commit m) (Start n) edge = (is.arrows (commit_node (position ns m)) (start_node (position ns n))).1 (inr (inl (lands is_flow CommitToStart m n edge)))
    has_it p q arrow = absurd arrow
