use Rattle.std.{proofs.Common.{◌≡◌, ◌∙◌, ◌<◌, ◌≤◌, ◌*◌, sym, ap, map, subst, length, arith}, specs.{List.{All, count_by}, Prelude.{◌==◌, ℕ, Contains, slice_index}}}
use Rattle.lab_order.specs.{Arrows.{nodes_of}, Knots.{IsBackCircle}, Order.{IsOrdered, IsAnswered, position}}
use Rattle.lab_deps.proofs.Places.{times, times_count}
use Rattle.lab_judge.specs.{PlaceGraphs.{point_at, span_in}, LeastPlaces.{IsLower}, Places.{IsArrow}}
use Rattle.lab_judge.proofs.{GraphNodes.{within, circle_within, once_in}, NodePlaces.{no_more}, PointNodes.{back_circle}, SnapshotVerdicts.{due_places}}
use Rattle.lab_judge.proofs.placing.snapshot_verdict.Goals as goal

pub places_in-requires : goal.places_in-requires
places_in-requires c =
    let graph = c.in_ok-graph.graph in
    let order = c.in-Order.order.items in
    let ordered = subst (IsOrdered graph) c.in-Order.is c.in_ok-order.ensures.ordered in
    let inside : All (λ n. n < nodes_of graph) order = within graph c.in_ok-order.ensures.graph order ordered in
    let once : (a : ℕ) → times a order ≤ 1 = once_in graph order ordered.each_once in
    let most = no_more (nodes_of graph) order inside once in
    record {
      within = subst (All (λ n. n < 2 * c.len.result)) (sym c.deref.ensures.value)
          (subst (λ k. All (λ n. n < k) order) (c.in_ok-graph.ensures.size ∙ ap (λ k. 2 * k) (sym c.len.ensures.count)) inside);
      once = λ node. subst (λ l. count_by (λ n. n == node) l ≤ 1) (sym c.deref.ensures.value) (subst (λ k. k ≤ 1) (times_count node order) (once node));
      few = omega (arith, most, ap length c.deref.ensures.value, c.in_ok-graph.ensures.size, c.len.ensures.count, c.len.ensures.few);
    }

pub returns-in-Order : goal.returns-in-Order
returns-in-Order c = λ h of.
    let are = subst (λ l. (node : ℕ) → Contains l node → slice_index c.in_ok-places-in-Order.places.items node ≡ position l node) c.deref.ensures.value c.in_ok-places-in-Order.ensures.places in
    due_places of c.in_ok-graph.graph c.in_ok-order.ensures.graph c.in_ok-graph.ensures c.in-Order.order.items (subst (IsAnswered c.in_ok-graph.graph) c.in-Order.is c.in_ok-order.ensures.least)
    c.in_ok-places-in-Order.places.items are c.new.result
    (c.new.ensures ∙ c.in_ok-spans-in-Order.ensures ∙ ap (λ l. map (span_in c.args.net.now.numbers l) c.args.net.now.numbers) c.deref-in-Order.ensures.value)

pub points_of-requires : goal.points_of-requires
points_of-requires c =
    let circle = subst (IsOrdered c.in_ok-graph.graph) c.in-Circle.is c.in_ok-order.ensures.ordered in
    subst (All (λ n. n < 2 * length c.args.net.now.numbers)) (sym c.deref-in-Circle.ensures.value)
    (subst (λ k. All (λ n. n < k) c.in-Circle.circle.items) c.in_ok-graph.ensures.size (circle_within c.in_ok-graph.graph c.in_ok-order.ensures.graph c.in-Circle.circle.items circle))

pub returns : goal.returns
returns c = λ h of.
    subst (IsBackCircle IsLower (IsArrow h)) (sym (c.new-in-Circle.ensures ∙ c.in_ok-points-in-Circle.ensures ∙ ap (map (point_at c.args.net.now.numbers)) c.deref-in-Circle.ensures.value))
    (back_circle of c.in_ok-graph.graph c.in_ok-order.ensures.graph c.in_ok-graph.ensures c.in-Circle.circle.items (subst (IsAnswered c.in_ok-graph.graph) c.in-Circle.is c.in_ok-order.ensures.least))
