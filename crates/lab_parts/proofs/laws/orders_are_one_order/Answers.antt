use Rattle.lab_parts.proofs.WholeOrders.{whole_serial}
use Rattle.lab_parts.proofs.laws.orders_are_one_order.Goals as goal

pub returns : goal.returns
returns c = λ first others runs each fits. whole_serial first others runs each fits
