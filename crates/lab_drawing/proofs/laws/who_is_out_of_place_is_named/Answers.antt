use Rattle.lab_drawing.proofs.NamedInstalls.{note_names}
use Rattle.lab_drawing.proofs.laws.who_is_out_of_place_is_named.Goals as goal

pub returns : goal.returns
returns c = λ h report row exact is. note_names h report row exact is
