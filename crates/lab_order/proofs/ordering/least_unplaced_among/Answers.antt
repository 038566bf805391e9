use Rattle.std.proofs.Common.{◌≡◌, ◌+◌, refl, sym, subst, true, false, get_or, rules, arith}
use Rattle.lab_order.{specs.Placing.{is_marked}, proofs.{LeastUnplaced.{IsLeastUnplaced, past_placed, past_unplaced, least_of_all, none_of_all}, ordering.least_unplaced_among.Goals.{then-not-placed-node, else-not-placed-node}}}
use Rattle.lab_order.proofs.ordering.least_unplaced_among.Goals as goal

pub loop-node-preserved : goal.loop-node-preserved
loop-node-preserved c =
    elim c.if-not-placed-node.branch [
      | then-not-placed-node w ↦
          let unplaced : is_marked c.args.placed.now (get_or c.args.nodes.now c.loop-node.node-index 0) ≡ false = search rules in
          subst (IsLeastUnplaced c.args.placed.now c.args.nodes.now (c.loop-node.node-index + 1)) (sym w.least-is)
          (past_unplaced c.args.placed.now c.args.nodes.now c.loop-node.node-index c.loop-node.least c.loop-node.invariant (get_or c.args.nodes.now c.loop-node.node-index 0) _ (omega arith)
          refl unplaced w.lesser.ensures.one w.lesser.ensures.node w.lesser.ensures.least)
      | else-not-placed-node w ↦
          let is_placed : is_marked c.args.placed.now (get_or c.args.nodes.now c.loop-node.node-index 0) ≡ true = search rules in
          subst (IsLeastUnplaced c.args.placed.now c.args.nodes.now (c.loop-node.node-index + 1)) (sym w.least-is)
          (past_placed c.args.placed.now c.args.nodes.now c.loop-node.node-index c.loop-node.least c.loop-node.invariant is_placed)
    ]

pub returns-clause-least : goal.returns-clause-least
returns-clause-least c = least_of_all c.args.placed.now c.args.nodes.now c.loop-node.node-index c.loop-node.least c.loop-node.invariant (omega arith)

pub returns-clause-none : goal.returns-clause-none
returns-clause-none c = none_of_all c.args.placed.now c.args.nodes.now c.loop-node.node-index c.loop-node.least c.loop-node.invariant (omega arith)
