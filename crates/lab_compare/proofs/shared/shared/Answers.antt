use Rattle.lab_compare.proofs.CommonWrites.{next_common}
use Rattle.lab_compare.proofs.shared.shared.Goals as goal

pub loop-other-preserved : goal.loop-other-preserved
loop-other-preserved c =
    next_common c.in_ok-first.first.now c.in_ok-first.others.now c.loop-other.other-index c.loop-other.count c.in_ok-common_of.field-0 c.min-count.result c.other-item.result c.loop-other-test.true c.other-item.is c.min-count.ensures c.loop-other.invariant c.in_ok-common_of.ensures
