use Rattle.std.{proofs.Common.{◌≡◌, ◌==◌, ◌&&◌, ◌∙◌, subst, arith}, specs.List.{list_any}}
use Rattle.lab_drawing.{specs.{Readers.{Grows}, declared.readers.Nodes.TheVariants.{Without}}, proofs.GrownArrows.{bare_among, one_more_among, is_graph_without}}
use Rattle.lab_drawing.proofs.readers.graph_without.Goals as goal

pub loop-to-init : goal.loop-to-init
loop-to-init c = record { size = c.in_ok-graph.ensures.nodes; first = bare_among c.args.ties.now c.args.txn c.args.all.now _ c.in_ok-graph.ensures.arrows }

pub loop-to-preserved : goal.loop-to-preserved
loop-to-preserved c =
    let h = c.args.ties.now in
    let n = c.args.txn in
    let k = c.loop-to.to in
    record {
      size = c.in_ok-add_arrows_from.ensures.size ∙ c.loop-to.invariant.size;
      first = one_more_among h n c.args.all.now k _ _ c.loop-to.invariant.first
          (subst (λ ns. Grows h (Without n) (λ a b. list_any (λ m. m == a) ns && k == b) c.loop-to.graph c.add_arrows_from.new.graph) c.before-others.ensures.nodes c.in_ok-add_arrows_from.ensures);
    }

pub returns : goal.returns
returns c =
    let all : c.loop-to.to ≡ c.count-count.result = omega (arith, c.loop-to-test.false, c.loop-to.auto.to-end) in
    is_graph_without c.args.ties.now c.args.txn c.args.all.now c.count-count.result c.loop-to.to _ c.requires c.count-count.ensures all c.loop-to.invariant.size c.loop-to.invariant.first
