use Rattle.std.proofs.Common.{None}
use Rattle.lab_evidence.specs.Scope.{scope_of}
use Rattle.lab_page.proofs.InPages.{opening_shown, step_shown, recorded_shown, due_shown, mistake_shown, places_shown, phenomenon_shown, level_shown}
use Rattle.lab_page.proofs.laws.the_sentences_stand_in_their_page.Goals as goal

pub returns : goal.returns
returns c = record {
  first = λ h report asked title picture. opening_shown h (scope_of h report asked) report asked title picture;
  steps = λ h report asked title picture e among. step_shown h (scope_of h report asked) report asked title picture e among;
  recorded = λ h report title picture f is. recorded_shown h (scope_of h report None) report title picture f is;
  due = λ h report title picture f is. due_shown h (scope_of h report None) report title picture f is;
  mistake = λ h report title picture f is. mistake_shown h (scope_of h report None) report title picture f is;
  places = λ h report asked title picture. places_shown h (scope_of h report asked) report asked title picture;
  phenomena = λ h report asked title picture p. phenomenon_shown h (scope_of h report asked) report asked title picture p;
  level = λ h report asked title picture. level_shown h (scope_of h report asked) report asked title picture;
}
