use Rattle.lab_case_commands.proofs.OneTable.{one_answer}
use Rattle.lab_case_commands.proofs.laws.matrix_answer_unique.Goals as goal

pub returns : goal.returns
returns c = record {
  text = λ one other first again a b. (one_answer one other first again a b).0;
  ending = λ one other first again a b. (one_answer one other first again a b).1;
}
