use Rattle.lab_compare.proofs.CommonWrites.{one_more}
use Rattle.lab_compare.proofs.shared.common.Goals as goal

pub loop-place-preserved : goal.loop-place-preserved
loop-place-preserved c =
    one_more c.args.one.now c.args.other.now c.loop-place.place c.index-one-place.result c.loop-place-test.true c.index-one-place.is (c.stands_at.ensures c.if-not-stands_at.false) c.loop-place.invariant
