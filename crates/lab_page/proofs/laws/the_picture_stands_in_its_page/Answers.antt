use Rattle.lab_evidence.specs.Scope.{scope_of}
use Rattle.lab_page.proofs.InPages.{picture_held}
use Rattle.lab_page.proofs.laws.the_picture_stands_in_its_page.Goals as goal

pub returns : goal.returns
returns c = λ h report focus title picture short. picture_held h (scope_of h report focus) report focus title picture short
