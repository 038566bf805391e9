use Rattle.std.{proofs.Common.{◌∙◌, ◌<◌, sym, ap, map, slice_index, subst, length}, specs.List.{All}}
use Rattle.lab_order.{specs.{Arrows.{IsArrow}, Order.{IsOrdered, IsAnswered}}, proofs.Trails.{ring_of}}
use Rattle.lab_deps.{specs.{KindSets.{among}, declared.kinds.TheConstants.Kinds.{ALL}}, proofs.NamedKinds.{all_named}}
use Rattle.lab_judge.{specs.{Graphs.{Tie}, LeastWalks.{IsBackWalk}}, proofs.{GraphNodes.{within}, LeastWalks.{is_back}, Nets.{net_for}, SerialVerdicts.{due_order}}}
use Rattle.lab_judge.proofs.serializing.serial_verdict.Goals as goal

pub numbers_of-requires : goal.numbers_of-requires
numbers_of-requires c =
    let ordered = subst (IsOrdered c.args.graph.now) c.in-Order.is c.in_ok-order.ensures.ordered in
    subst (All (λ n. n < length c.args.net.now.numbers)) (sym c.deref.ensures.value)
    (subst (λ k. All (λ n. n < k) c.in-Order.order.items) c.requires.size (within c.args.graph.now c.in_ok-order.ensures.graph c.in-Order.order.items ordered))

pub returns-in_ok-numbers-in-Order : goal.returns-in_ok-numbers-in-Order
returns-in_ok-numbers-in-Order c = λ h of.
    due_order of c.args.graph.now c.in_ok-order.ensures.graph c.requires c.in-Order.order.items (subst (IsAnswered c.args.graph.now) c.in-Order.is c.in_ok-order.ensures.least) c.new.result
    (c.new.ensures ∙ c.in_ok-numbers-in-Order.ensures ∙ ap (map (slice_index c.args.net.now.numbers)) c.deref.ensures.value)

pub walk_round-requires : goal.walk_round-requires
walk_round-requires c =
    ring_of (IsArrow c.args.graph.now) (Tie (among ALL) c.args.net.now) (λ a b. (c.requires.arrows a b).0) c.in-Circle.circle.items
    (subst (IsOrdered c.args.graph.now) c.in-Circle.is c.in_ok-order.ensures.ordered)

pub returns-in_ok-walk-in-Circle : goal.returns-in_ok-walk-in-Circle
returns-in_ok-walk-in-Circle c = λ h of.
    subst (λ kinds. IsBackWalk h kinds c.in_ok-walk-in-Circle.walk) all_named
    (is_back (net_for (among ALL) of) c.args.graph.now c.requires c.in-Circle.circle.items (subst (IsAnswered c.args.graph.now) c.in-Circle.is c.in_ok-order.ensures.least)
    c.in_ok-walk-in-Circle.walk (c.in_ok-walk-in-Circle.ensures h (net_for (among ALL) of)))
