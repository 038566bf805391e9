use Rattle.lab_deps.proofs.FaultOrders.{first_answers}
use Rattle.lab_deps.proofs.laws.first_fault_is_answer.Goals as goal

pub returns : goal.returns
returns c = λ h fault first. first_answers h fault first
