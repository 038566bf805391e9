use Rattle.std.proofs.{Common.{◌+◌, drop, get_or, refl, ◌∙◌}, lemmas.List.{drop_all, drop_more}}
use Rattle.lab_drawing.proofs.GrownArrows.{looked_at, all_looked_at}
use Rattle.lab_drawing.proofs.readers.add_arrows_from.Goals as goal

pub loop-from-init : goal.loop-from-init
loop-from-init c = record { size = refl; same = λ a b. refl }

pub loop-from-preserved : goal.loop-from-preserved
loop-from-preserved c =
    let among = c.args.among.now in
    let i = c.loop-from.from-index in
    record {
      size = c.in_ok-add_arrow.ensures.size ∙ c.loop-from.invariant.size;
      same = looked_at c.args.ties.now c.args.nodes.now (get_or among i 0) (drop (i + 1) among) (drop i among) c.args.to _ _ among _ (drop_more among i 0 c.loop-from-test.true) c.loop-from.invariant.same c.in_ok-add_arrow.ensures;
    }

pub returns : goal.returns
returns c =
    let among = c.args.among.now in
    let i = c.loop-from.from-index in
    all_looked_at c.args.ties.now c.args.nodes.now (drop i among) c.args.to _ among _ (drop_all i among c.loop-from-test.false) c.loop-from.invariant.size c.loop-from.invariant.same
