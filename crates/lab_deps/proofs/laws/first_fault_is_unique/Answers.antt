use Rattle.lab_deps.proofs.FaultOrders.{one_first}
use Rattle.lab_deps.proofs.laws.first_fault_is_unique.Goals as goal

pub returns : goal.returns
returns c = λ h one other first again. one_first h one other first again
