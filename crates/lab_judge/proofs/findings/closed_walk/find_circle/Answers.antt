use Rattle.std.proofs.Common.{subst}
use Rattle.lab_order.{specs.{Arrows.{IsArrow}, Order.{IsOrdered, IsAnswered}}, proofs.Trails.{ring_of}}
use Rattle.lab_deps.specs.KindSets.{among}
use Rattle.lab_judge.{specs.Graphs.{Tie}, proofs.{GraphWalks.{order_excludes}, LeastWalks.{is_back}}}
use Rattle.lab_judge.proofs.findings.closed_walk.find_circle.Goals as goal

pub returns-in-Order : goal.returns-in-Order
returns-in-Order c = λ h of es closed.
    order_excludes of c.args.graph.now c.requires c.in-Order.field-0.items (subst (IsOrdered c.args.graph.now) c.in-Order.is c.in_ok-order.ensures.ordered) es closed

pub walk_round-requires : goal.walk_round-requires
walk_round-requires c =
    ring_of (IsArrow c.args.graph.now) (Tie (among c.args.allowed) c.args.net.now) (λ a b. (c.requires.arrows a b).0) c.in-Circle.circle.items
    (subst (IsOrdered c.args.graph.now) c.in-Circle.is c.in_ok-order.ensures.ordered)

pub returns : goal.returns
returns c = λ h of.
    is_back of c.args.graph.now c.requires c.in-Circle.circle.items (subst (IsAnswered c.args.graph.now) c.in-Circle.is c.in_ok-order.ensures.least) c.in_ok-walk-in-Circle.walk
    (c.in_ok-walk-in-Circle.ensures h of)
