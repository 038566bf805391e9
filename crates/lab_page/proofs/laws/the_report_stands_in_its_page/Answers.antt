use Rattle.lab_evidence.specs.Scope.{scope_of}
use Rattle.lab_page.proofs.InPages.{report_shown}
use Rattle.lab_page.proofs.laws.the_report_stands_in_its_page.Goals as goal

pub returns : goal.returns
returns c = λ h report focus title picture. report_shown h (scope_of h report focus) report focus title picture
