use Rattle.std.proofs.Common.{◌≡◌, ◌++◌, drop}
use Rattle.lab_evidence.specs.Questions.{of_steps}
use Rattle.lab_evidence.proofs.questions.put_of_steps.Given as goal

abbrev pub invariant-loop-index : goal.invariant-loop-index
invariant-loop-index l = l.out.items ++ of_steps l.history l.index (drop l.index l.steps) ≡ l.initial.out.items ++ of_steps l.history 0 l.steps
