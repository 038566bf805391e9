-- Starts and commits are labels of the nodes of their graph.
use Rattle.std.proofs.{Common.{◌≡◌, ℕ, ◌+◌, ◌*◌, ◌/◌, ◌%◌, ◌<◌, ◌==◌, Bool, true, false, cond, List, length, map, nat_lt, slice_index, refl, sym, ap, ◌∙◌, subst, arith, inl, inr}, lemmas.Bool.{eqb-true, eqb-false, cases_lt, cases_order, ltb-true, lt-ltb, Decides.{Decides-eqb, Decides-like}}}
use Rattle.std.specs.{Prelude.{Decides}, List.Sorted.{IsStrictlyIncreasing}}
use Rattle.lab_order.specs.Arrows as arrows
use Rattle.lab_order.specs.{Arrows.{Arrows, nodes_of, IsGraph}, Knots.{IsBackCircle}, Least.{IsLess, IsLeast}, Order.{position}}
use Rattle.lab_order.specs.Back as back
use Rattle.lab_order.specs.Order as order
use Rattle.lab_history.specs.{History.{History}, Version.{outcome_of}}
use Rattle.lab_deps.{specs.{KindSets.{is_any}, KindsBetween.{KindsBetween}, Soundness.{has_committed}}, proofs.Found.{committed as is_committed}}
use Rattle.lab_judge.specs.{Graphs.{IsNetOf}, Joining.{start_node, commit_node}, LeastPlaces.{txn_of, label, is_point, IsLower, place_in, IsPointOrder, IsLeastPointOrder}, PlaceGraphs.{point_at, IsPlaceGraph}, Places.{IsArrow}, Runs.{HoldsEachOnce}, declared.places.Point.{Point, TheVariants.{Start, Commit}}}
use Rattle.lab_judge.proofs.{GraphNodes.{ends as node_ends, node_things, as_order}, LabelledKnots.{circle_label}, Lists.{of_both}, Nets.{rises as numbers_rise, node_again as number_node, node_within as number_within, commits_at}}
use Rattle.lab_judge.proofs.{Labels.{AreThings, AreLabels, labelled, not_after, place_is as place_of_label}, OnePlacing.{one_label, not_both}, PlaceNodes.{IsOfCommitted, ends, node_of, point_start, point_commit, point_again, arrow_is, has_it}}

pub is_same : (p q : Point) → Decides (is_point p q) (p ≡ q)
is_same p q = Decides-like (is_point p q) (one_label p q) (ap label) (Decides-eqb (label p) (label q))

-- the starts and commits of the committed transactions
pub point_things : (h : History) → AreThings is_point place_in (λ p. has_committed (outcome_of h (txn_of p))) (IsArrow h)
point_things h = record {
  decides = is_same;
  next = λ p ps q. refl;
  ends = λ p q arrow. let both : IsOfCommitted h p × IsOfCommitted h q = ends h p q arrow in (ap has_committed both.0, ap has_committed both.1);
}

-- what is so at the nodes of starts and of commits is so at all
by_half : (P : ℕ → Type 0) → ((k : ℕ) → P (start_node k)) → ((k : ℕ) → P (commit_node k)) → (a : ℕ) → P a
by_half P at_start at_commit a = elim (cases_lt (a % 2) 1) [
  | inl even ↦ let e : start_node (a / 2) ≡ a = omega (arith, even) in subst P e (at_start (a / 2))
  | inr odd ↦ let e : commit_node (a / 2) ≡ a = omega (arith, odd) in subst P e (at_commit (a / 2))
]

module _ (ns : List ℕ) (up : IsStrictlyIncreasing ns) where
  label_at : (a : ℕ) → label (point_at ns a) ≡ 2 * slice_index ns (a / 2) + a % 2
  label_at a = at (a % 2 == 0) refl
    where
      at : (b : Bool) → (a % 2 == 0) ≡ b → label (cond b (Start (slice_index ns (a / 2))) (Commit (slice_index ns (a / 2)))) ≡ 2 * slice_index ns (a / 2) + a % 2
      at true e = let even = eqb-true (a % 2) 0 e in omega (arith, even)
      at false e = let odd = eqb-false (a % 2) 0 e in omega (arith, odd)

  -- points are lower as their nodes are less
  lower : (a b : ℕ) → a < b → b < 2 * length ns → IsLower (point_at ns a) (point_at ns b)
  lower a b l within = elim (cases_lt (a / 2) (b / 2)) [
    | inl less ↦ let rise = numbers_rise ns up (a / 2) (b / 2) less (omega (arith, within)) in omega (arith, rise, label_at a, label_at b)
    | inr ge ↦ let same : a / 2 ≡ b / 2 = omega (arith, l, ge) in omega (arith, l, same, ap (slice_index ns) same, label_at a, label_at b)
  ]

  node_again : (a : ℕ) → a < 2 * length ns → node_of ns (point_at ns a) ≡ a
  node_again = by_half (λ a. a < 2 * length ns → node_of ns (point_at ns a) ≡ a)
      (λ k lt. ap (node_of ns) (point_start ns k) ∙ ap start_node (number_node ns up k (omega (arith, lt))))
      (λ k lt. ap (node_of ns) (point_commit ns k) ∙ ap commit_node (number_node ns up k (omega (arith, lt))))

module _ (h : History) (ns : List ℕ) (once : HoldsEachOnce h ns) where
  pub node_within : (p : Point) → IsOfCommitted h p → node_of ns p < 2 * length ns
  node_within (Start n) c = let l = number_within h ns once n c in omega (arith, l)
  node_within (Commit n) c = let l = number_within h ns once n c in omega (arith, l)

  point_there : (a : ℕ) → a < 2 * length ns → IsOfCommitted h (point_at ns a)
  point_there = by_half (λ a. a < 2 * length ns → IsOfCommitted h (point_at ns a))
      (λ k lt. subst (IsOfCommitted h) (sym (point_start ns k)) (commits_at h ns once k (omega (arith, lt))))
      (λ k lt. subst (IsOfCommitted h) (sym (point_commit ns k)) (commits_at h ns once k (omega (arith, lt))))

module _ {h : History} {net : KindsBetween} (of : IsNetOf h is_any net) (graph : Arrows) (g : IsGraph graph) (is : IsPlaceGraph net graph) where
  abbrev ns : List ℕ
  ns = net.numbers

  abbrev once : HoldsEachOnce h ns
  once = of.committed.each_once

  abbrev there : Point → Bool
  there p = has_committed (outcome_of h (txn_of p))

  committed : (p : Point) → there p ≡ true → IsOfCommitted h p
  committed p t = is_committed (outcome_of h (txn_of p)) t

  inside : (a : ℕ) → nat_lt a (nodes_of graph) ≡ true → a < 2 * length ns
  inside a lt = subst (λ k. a < k) is.size (ltb-true a (nodes_of graph) lt)

  labels : AreLabels (λ a. nat_lt a (nodes_of graph)) (arrows.IsArrow graph) there (IsArrow h) (point_at ns) (node_of ns)
  labels = record {
    goes = λ a lt. ap has_committed (point_there h ns once a (inside a lt));
    comes = λ p t. lt-ltb (node_of ns p) (nodes_of graph) (subst (λ k. node_of ns p < k) (sym is.size) (node_within h ns once p (committed p t)));
    back = λ a lt. node_again ns of.committed.rising a (inside a lt);
    again = λ p t. point_again of p (committed p t);
    to = arrow_is of graph is;
    from = has_it of graph is;
  }

  rises : (a b : ℕ) → nat_lt b (nodes_of graph) ≡ true → a < b → IsLower (point_at ns a) (point_at ns b)
  rises a b lt less = lower ns of.committed.rising a b less (inside b lt)

  falls : (p q : Point) → there p ≡ true → there q ≡ true → IsLower p q → node_of ns p < node_of ns q
  falls p q tp tq less = elim (cases_order (node_of ns p) (node_of ns q)) [
    | inl same ↦
        let one : p ≡ q = sym (labels.again p tp) ∙ ap (point_at ns) same ∙ labels.again q tq in
        let own : IsLower p p = subst (IsLower p) (sym one) less in
        absurd (not_both p p own own)
    | inr (inl lt) ↦ lt
    | inr (inr gt) ↦
        let more : IsLower (point_at ns (node_of ns q)) (point_at ns (node_of ns p)) = rises (node_of ns q) (node_of ns p) (labels.comes p tp) gt in
        absurd (not_both p q less (of_both IsLower (labels.again q tq) (labels.again p tp) more))
  ]

  module _ (placed : List ℕ) (ordered : order.IsOrder graph placed) where
    -- the place of a point is that of its node
    pub place_is : (p : Point) → IsOfCommitted h p → place_in (map (point_at ns) placed) p ≡ position placed (node_of ns p)
    place_is p c =
        place_of_label (node_things graph g) (point_things h) (λ _ _. refl) (point_at ns) (node_of ns) labels placed (as_order graph g placed ordered) p (ap has_committed c)

    -- an order of the nodes is one of their points
    pub is_order : IsPointOrder h (map (point_at ns) placed)
    is_order = let o = labelled (node_things graph g) (point_things h) (λ _ _. refl) (point_at ns) (node_of ns) labels placed (as_order graph g placed ordered) in record { each_once = o.each_once; forward = o.forward }

  -- and the least of the nodes is that of their points
  pub is_least : (placed : List ℕ) → IsLeast (order.IsOrder graph) placed → IsLeastPointOrder h (map (point_at ns) placed)
  is_least placed l = record {
    is_one = is_order placed l.is_one;
    least = λ others o.
        not_after (node_things graph g) (point_things h) (λ _ _. refl) (point_at ns) (node_of ns) labels IsLess IsLower rises placed
        (λ nodes n. l.least nodes (record { each_once = n.each_once; forward = n.forward })) others (record { each_once = o.each_once; forward = o.forward });
  }

  -- a cycle on the way back from the least stuck node is one of points
  pub back_circle : (circle : List ℕ) → back.IsBackCircle graph circle → IsBackCircle IsLower (IsArrow h) (map (point_at ns) circle)
  back_circle circle k =
      circle_label (λ a. nat_lt a (nodes_of graph)) (arrows.IsArrow graph) there (IsArrow h) (point_at ns) (node_of ns) (node_ends graph g) (point_things h).ends labels IsLess IsLower rises falls
      circle k
