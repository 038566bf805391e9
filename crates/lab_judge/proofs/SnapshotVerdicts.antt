-- What the order of the graph of starts and commits says of the history.
use Rattle.std.proofs.{Common.{◌≡◌, ℕ, suc, ◌+◌, ◌<◌, ◌≤◌, ◌==◌, Bool, true, false, cond, List, [], ◌∷◌, get_or, map, slice_index, refl, sym, ap, ◌∙◌, subst, arith}, lemmas.{List.{map-id, Elements.{All-map, All-contains, Contains-get_or}, Sums.{sum_by-cons}}, Option.{slice_get-get_or}, Simd.{map-map}}}
use Rattle.std.specs.{Prelude.{Contains, count_by}, List.{All, Sorted.{IsStrictlyIncreasing}}}
use Rattle.lab_table.proofs.Members.{member_at}
use Rattle.lab_order.specs.{Arrows.{Arrows, nodes_of, IsGraph}, Least.{IsLeast}, Order.{position}}
use Rattle.lab_order.specs.Order as order
use Rattle.lab_history.specs.{History.{History}, Version.{IsCommitted}}
use Rattle.lab_deps.{specs.{KindSets.{is_any}, KindsBetween.{KindsBetween}, Soundness.{has_committed}}, proofs.Places.{times_count, at_times}}
use Rattle.lab_judge.specs.{Runs.{HoldsEachOnce, Span, all_places}, Places.{start_of, commit_of, place_of_point, IsForwardPlacing}, LeastPlaces.{is_point, place_in, IsPointOrder, IsLeastPointOrder, ArePlacedAlong}, Graphs.{IsNetOf}, PlaceGraphs.{IsPlaceGraph, point_at, span_in}}
use Rattle.lab_judge.specs.declared.places.Point.{Point, TheVariants.{Start, Commit}}
use Rattle.lab_judge.proofs.{GraphNodes.{in_order}, Numbers.{contained}, OnePlacing.{IsPlaced}, Orders.{at_most, committed_in, committed_once}, PlaceNodes.{IsOfCommitted, ends, node_of}, PlacesApart.{IsTold, owners, owner_at, apart}, Placings.{find_span, places_of}, PointNodes.{is_same, node_within, place_is, is_least}}

-- points of one place are one, where one of them is in the list
one_point : (ps : List Point) (p q : Point) → 1 ≤ count_by (λ r. is_point r p) ps → place_in ps p ≡ place_in ps q → p ≡ q
one_point [] p q some same = absurd (omega (arith, some))
one_point (r ∷ ps) p q some same =
    at (one_point ps p q) (is_point r p) (is_point r q) refl refl (subst (λ k. 1 ≤ k) (sum_by-cons (λ r. cond (is_point r p) 1 0) r ps) some) same
  where
    at : (1 ≤ count_by (λ r. is_point r p) ps → place_in ps p ≡ place_in ps q → p ≡ q) → (a b : Bool) → is_point r p ≡ a → is_point r q ≡ b
        → 1 ≤ cond a 1 0 + count_by (λ r. is_point r p) ps → cond a 0 (suc (place_in ps p)) ≡ cond b 0 (suc (place_in ps q)) → p ≡ q
    at rest true true e f some same = sym ((is_same r p).0 e) ∙ (is_same r q).0 f
    at rest true false e f some same = absurd (omega (arith, same))
    at rest false true e f some same = absurd (omega (arith, same))
    at rest false false e f some same = rest (omega (arith, some)) (omega (arith, same))

-- the transactions of spans are those that they were made of
numbers_are : (ns places ms : List ℕ) → owners (map (span_in ns places) ms) ≡ ms
numbers_are ns places ms = map-map (λ s. s.txn) (span_in ns places) ms ∙ map-id ms

module _ (h : History) (points : List Point) (o : IsPointOrder h points) (ss : List Span) (once : HoldsEachOnce h (owners ss)) (along : ArePlacedAlong points ss) where
  placed : All (IsPlaced points) ss
  placed k d lt = along.placed (get_or ss k d) (Contains-get_or ss k d lt)

  -- a place tells the point that has it
  abbrev Tells : ℕ → Point → Type 0
  Tells x p = IsOfCommitted h p × (x ≡ place_in points p)

  one : (x : ℕ) (p q : Point) → Tells x p → Tells x q → p ≡ q
  one x p q a b = one_point points p q (omega (arith, o.each_once p, ap {B = ℕ} (λ c. cond (has_committed c) 1 0) a.0)) (sym a.1 ∙ b.1)

  told : All (IsTold Tells) ss
  told k d lt =
      let s = get_or ss k d in
      let c : IsCommitted h s.txn = committed_in h (owners ss) once s.txn (at_times (owners ss) k s.txn (owner_at ss k s (slice_get-get_or ss k d lt))) in
      ((c, (placed k d lt).0), (c, (placed k d lt).1))

  -- so no place is of two points
  pub distinct : (x : ℕ) → count_by (λ p. p == x) (all_places ss) ≤ 1
  distinct x = subst (λ k. k ≤ 1) (times_count x (all_places ss)) (apart Tells one ss told (at_most h (owners ss) once) x)

  span_of : (n : ℕ) → IsCommitted h n → (s : Span) × IsPlaced points s × (s.txn ≡ n) × (start_of ss s.txn ≡ s.start) × (commit_of ss s.txn ≡ s.commit)
  span_of n c =
      let s = find_span ss n (omega (arith, committed_once h (owners ss) once n c)) in
      let are = places_of ss s.0 s.1 s.2 (at_most h (owners ss) once s.1.txn) in
      (s.1, along.placed s.1 (member_at ss s.0 s.1 s.2), s.3, are.0, are.1)

  place_of : (p : Point) → IsOfCommitted h p → place_of_point ss p ≡ place_in points p
  place_of (Start n) c = let s = span_of n c in sym (ap (start_of ss) s.2) ∙ s.3 ∙ s.1.0 ∙ ap (λ k. place_in points (Start k)) s.2
  place_of (Commit n) c = let s = span_of n c in sym (ap (commit_of ss) s.2) ∙ s.4 ∙ s.1.1 ∙ ap (λ k. place_in points (Commit k)) s.2

  -- and every arrow points forward
  pub forward : IsForwardPlacing h ss
  forward p q arrow =
      let both : IsOfCommitted h p × IsOfCommitted h q = ends h p q arrow in
      omega (arith, place_of p both.0, place_of q both.1, o.forward p q arrow)

module _ {h : History} {net : KindsBetween} (of : IsNetOf h is_any net) (graph : Arrows) (g : IsGraph graph) (is : IsPlaceGraph net graph) (nodes : List ℕ) (l : IsLeast (order.IsOrder graph) nodes)
    (places : List ℕ) (are : (node : ℕ) → Contains nodes node → slice_index places node ≡ position nodes node) (made : List Span) (same : made ≡ map (span_in net.numbers places) net.numbers) where
  abbrev ns : List ℕ
  ns = net.numbers

  abbrev points : List Point
  points = map (point_at ns) nodes

  -- a point's node has the point's place
  own_place : (p : Point) → IsOfCommitted h p → slice_index places (node_of ns p) ≡ place_in points p
  own_place p c =
      let lt : node_of ns p < nodes_of graph = subst (λ k. node_of ns p < k) (sym is.size) (node_within h ns of.committed.each_once p c) in
      are (node_of ns p) (in_order graph nodes l.is_one.each_once (node_of ns p) lt) ∙ sym (place_is of graph g is nodes l.is_one p c)

  made_placed : All (IsPlaced points) made
  made_placed = subst (All (IsPlaced points)) (sym same) (All-map (IsPlaced points) (span_in ns places) ns (λ k d lt. one_of (get_or ns k d) (Contains-get_or ns k d lt)))
    where
      one_of : (n : ℕ) → Contains ns n → IsPlaced points (span_in ns places n)
      one_of n there = let c = committed_in h ns of.committed.each_once n (contained ns n there) in (own_place (Start n) c, own_place (Commit n) c)

  numbers : owners made ≡ ns
  numbers = ap owners same ∙ numbers_are ns places ns

  -- the spans at these places are those of the least order of points
  pub due_places : HoldsEachOnce h (owners made) × ((points : List Point) × IsLeastPointOrder h points × ArePlacedAlong points made)
  due_places = (
    subst (HoldsEachOnce h) (sym numbers) of.committed.each_once,
    (
      points,
      is_least of graph g is nodes l,
      record {
        rising = subst IsStrictlyIncreasing (sym numbers) of.committed.rising;
        placed = λ s there. All-contains (IsPlaced points) made s made_placed there;
      },
    ),
  )
