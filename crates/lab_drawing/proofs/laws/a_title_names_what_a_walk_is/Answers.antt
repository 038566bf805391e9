use Rattle.lab_drawing.proofs.TitledWalks.{title_tells}
use Rattle.lab_drawing.proofs.laws.a_title_names_what_a_walk_is.Goals as goal

pub returns : goal.returns
returns c = λ h report walk exact is. title_tells h report walk exact is
