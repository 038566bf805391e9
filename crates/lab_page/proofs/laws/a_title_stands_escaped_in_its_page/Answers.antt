use Rattle.lab_evidence.specs.Scope.{scope_of}
use Rattle.lab_page.proofs.TitledPages.{page_twice, title_shown}
use Rattle.lab_page.proofs.laws.a_title_stands_escaped_in_its_page.Goals as goal

pub returns : goal.returns
returns c = record {
  escaped = λ h report focus picture. page_twice h report focus (scope_of h report focus) picture;
  shown = λ h report focus title picture some. title_shown h report focus title some (scope_of h report focus) picture;
}
