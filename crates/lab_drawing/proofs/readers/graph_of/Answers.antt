use Rattle.std.proofs.Common.{◌≡◌, ◌∙◌, arith}
use Rattle.lab_drawing.proofs.GrownArrows.{bare, one_node_more, is_graph}
use Rattle.lab_drawing.proofs.readers.graph_of.Goals as goal

pub loop-to-init : goal.loop-to-init
loop-to-init c = record { size = c.in_ok-graph.ensures.nodes; first = bare c.args.ties.now c.args.nodes.now c.count-count.result _ c.in_ok-graph.ensures.arrows }

pub loop-to-preserved : goal.loop-to-preserved
loop-to-preserved c = record {
  size = c.in_ok-add_arrows_to.ensures.size ∙ c.loop-to.invariant.size;
  first = one_node_more c.args.ties.now c.args.nodes.now c.count-count.result c.loop-to.to _ _ c.loop-to.invariant.first c.in_ok-add_arrows_to.ensures;
}

pub returns : goal.returns
returns c =
    let all : c.loop-to.to ≡ c.count-count.result = omega (arith, c.loop-to-test.false, c.loop-to.auto.to-end) in
    is_graph c.args.ties.now c.args.nodes.now c.count-count.result c.loop-to.to _ c.count-count.ensures all c.loop-to.invariant.size c.loop-to.invariant.first
