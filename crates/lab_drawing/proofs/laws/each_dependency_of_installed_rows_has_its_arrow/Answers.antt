use Rattle.lab_drawing.proofs.MadeArrows.{has_arrow}
use Rattle.lab_drawing.proofs.laws.each_dependency_of_installed_rows_has_its_arrow.Goals as goal

pub returns : goal.returns
returns c = λ h e installed edge. has_arrow h installed e edge
