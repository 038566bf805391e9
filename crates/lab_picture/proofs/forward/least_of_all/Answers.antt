use Rattle.lab_picture.proofs.LeastOfPairs.{one_more}
use Rattle.lab_picture.proofs.forward.least_of_all.Goals as goal

pub loop-pair-preserved : goal.loop-pair-preserved
loop-pair-preserved c =
    λ h exact.
    one_more h c.args.pairs.now c.loop-pair.pair-index c.loop-pair.found.items c.push.new.self.items c.pair-item.result c.in_ok-least_of.field-0 c.loop-pair-test.true c.pair-item.is
    c.in_ok-push.ensures.items (c.loop-pair.invariant h exact) (c.in_ok-least_of.ensures h exact)
