use Rattle.lab_deps.specs.declared.fault.LocalFault.TheVariants.{InstallOrder}
use Rattle.lab_drawing.proofs.MadeArrows.{has_arrow}
use Rattle.lab_drawing.proofs.laws.each_dependency_has_its_arrow.Goals as goal

pub returns : goal.returns
returns c = λ h e sound edge. has_arrow h (λ row stands. sound (InstallOrder row) stands) e edge
