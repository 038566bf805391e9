use Rattle.lab_explain.proofs.Pointers.{pointed}
use Rattle.lab_explain.proofs.laws.how_to_have_a_cycle_explained_stands.Goals as goal

pub returns : goal.returns
returns c = λ h report p walk cut. pointed h report p walk cut
