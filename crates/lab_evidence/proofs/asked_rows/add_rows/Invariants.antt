use Rattle.std.proofs.Common.{◌≡◌, drop}
use Rattle.lab_evidence.specs.Questions.{with_rows}
use Rattle.lab_evidence.proofs.asked_rows.add_rows.Given as goal

abbrev pub invariant-loop-question : goal.invariant-loop-question
invariant-loop-question l = with_rows l.rows.items (drop l.question-index l.questions) ≡ with_rows l.initial.rows.items l.questions
