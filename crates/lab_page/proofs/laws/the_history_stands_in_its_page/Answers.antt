use Rattle.std.proofs.{Common.{length}, lemmas.Bool.{le-leb}}
use Rattle.lab_evidence.specs.Scope.{scope_of}
use Rattle.lab_overview.specs.Check.{file_of}
use Rattle.lab_page.proofs.InHistory.{history_shown}
use Rattle.lab_page.proofs.laws.the_history_stands_in_its_page.Goals as goal

pub returns : goal.returns
returns c = λ h report focus title picture short. history_shown h (scope_of h report focus) report focus title picture (le-leb (length (file_of h)) 65536 short)
