use Rattle.lab_parts.proofs.WholeOrders.{whole_placed}
use Rattle.lab_parts.proofs.laws.spans_are_one_placing.Goals as goal

pub returns : goal.returns
returns c = λ first others runs each fits. whole_placed first others runs each fits
