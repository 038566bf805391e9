use Rattle.lab_order.proofs.Answers.{one_answer}
use Rattle.lab_order.proofs.laws.answered_unique.Goals as goal

pub returns : goal.returns
returns c = one_answer
