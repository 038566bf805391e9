use Rattle.lab_order.proofs.Least.{neither_after}
use Rattle.lab_order.proofs.laws.least_unique.Goals as goal

pub returns : goal.returns
returns c = neither_after
