use Rattle.lab_case_commands.proofs.OneTable.{one_answer_at}
use Rattle.lab_case_commands.proofs.laws.columns_answer_unique.Goals as goal

pub returns : goal.returns
returns c = record {
  text = λ levels one other first again a b. (one_answer_at levels one other first again a b).0;
  ending = λ levels one other first again a b. (one_answer_at levels one other first again a b).1;
}
