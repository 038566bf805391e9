use Rattle.std.{proofs.{Common.{◌≡◌, ◌<◌, ◌≤◌, ◌||◌, ◌&&◌, ◌+◌, ℕ, [], length, sym, ap, ◌∙◌, subst, arith}, lemmas.List.{get_or_default, with_items_is}}, specs.List.{All}}
use Rattle.lab_sets.specs.Sets.{has, room, room_for}
use Rattle.lab_order.{specs.{Arrows.{nodes_of}, Ways.{leads_by}}, proofs.Closure.{AreWaysBelow, at_first, one_more, are_exact}}
use Rattle.lab_order.proofs.ways.Ways.of.Goals as goal

pub loop-node-init : goal.loop-node-init
loop-node-init c = record {
  size = c.in_ok-sets.ensures.size;
  rooms = c.in_ok-sets.ensures.rooms;
  room = c.in_ok-through.ensures.room ∙ ap room_for c.nodes.ensures.count;
  below = at_first c.args.graph.now (leads_by c.in_ok-sets.sets.items) c.in_ok-sets.ensures.sets;
}

pub loop-node-preserved : goal.loop-node-preserved
loop-node-preserved c =
    let graph = c.args.graph.now in
    let k = c.loop-node.node in
    let old = c.loop-node.sets.items in
    let new = c.lead_on.new.sets in
    let made = with_items_is c.loop-node.sets new (c.lead_on.ensures.size ∙ c.deref_mut.ensures.len) in
    let now : c.deref_mut.result.now ≡ old = c.deref_mut.ensures.value in
    let size : length new ≡ nodes_of graph = c.lead_on.ensures.size ∙ (ap length now ∙ c.loop-node.invariant.size) in
    let room_is : room c.unite.new.self ≡ room_for (nodes_of graph) = c.unite.ensures.room ∙ (c.clear.ensures.room ∙ c.loop-node.invariant.room) in
    let lt : k < nodes_of graph = omega (arith, c.loop-node-test.true, c.nodes-node-end.ensures.count) in
    let within : k < length old = subst (λ n. k < n) (sym c.loop-node.invariant.size) lt in
    let row = c.index.ensures ∙ sym (get_or_default old k [] c.index.result.now within) in
    let got : (a : ℕ) → has c.unite.new.self a ≡ leads_by old a k = λ a. c.unite.ensures.has a ∙ (λ i. c.clear.ensures.none a i || has (row i) a) in
    let is : (a b : ℕ) → b < nodes_of graph → leads_by new a b ≡ (leads_by old a b || (leads_by old k b && leads_by old a k)) =
    λ a b less.
    c.lead_on.ensures.leads a b (subst (λ n. b < n) (sym (ap length now ∙ c.loop-node.invariant.size)) less)
    ∙ (λ i. leads_by (now i) a b || (leads_by (now i) k b && got a i)) in
    record {
      size = ap length made ∙ size;
      rooms = subst (All (λ s. room s ≡ room_for (nodes_of graph))) (sym made) (subst (λ r. All (λ s. room s ≡ r) new) room_is c.lead_on.ensures.rooms);
      room = room_is;
      below = subst (λ sets. AreWaysBelow graph (k + 1) (leads_by sets)) (sym made) (one_more graph k lt (leads_by old) (leads_by new) c.loop-node.invariant.below is);
    }

pub invariant_of-result : goal.invariant_of-result
invariant_of-result c =
    let all : nodes_of c.args.graph.now ≤ c.loop-node.node = omega (arith, c.loop-node-test.false, c.nodes-node-end.ensures.count) in
    record {
      size = c.loop-node.invariant.size;
      exact = are_exact c.args.graph.now c.nodes.ensures.graph c.loop-node.node all (leads_by c.loop-node.sets.items) c.loop-node.invariant.below;
    }
