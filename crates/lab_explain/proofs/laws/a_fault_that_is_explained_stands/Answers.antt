use Rattle.lab_explain.proofs.TrueFaults.{stands}
use Rattle.lab_explain.proofs.laws.a_fault_that_is_explained_stands.Goals as goal

pub returns : goal.returns
returns c = λ h report f exact is. stands h report f exact is
