use Rattle.std.{proofs.Common.{◌≤◌, get_or, sym, ◌∙◌, subst}, specs.Prelude.{IfSome}}
use Rattle.lab_deps.specs.Turns.{AreMarks}
use Rattle.lab_deps.proofs.turns.Turns.of.Goals as goal

pub marks_of-requires : goal.marks_of-requires
marks_of-requires c k = subst (λ ns. get_or ns k 0 ≤ c.greatest-most.result) (c.deref.ensures.value ∙ sym c.deref-2.ensures.value) (c.greatest-most.ensures k)

pub returns : goal.returns
returns c = record {
  installers = c.in_ok-installers.ensures;
  most = λ k. subst (λ ns. get_or ns k 0 ≤ c.greatest-most.result) c.deref.ensures.value (c.greatest-most.ensures k);
  marks = subst (λ ns. IfSome c.in_ok-marks.marks (λ row. AreMarks ns c.greatest-most.result row.items)) c.deref-2.ensures.value c.in_ok-marks.ensures;
}
