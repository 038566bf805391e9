use Rattle.lab_compare.proofs.OneComparison.{one_answer}
use Rattle.lab_compare.proofs.laws.compare_answer_unique.Goals as goal

pub returns : goal.returns
returns c = record {
  text = λ levels input one other first again a b. (one_answer levels input one other first again a b).0;
  ending = λ levels input one other first again a b. (one_answer levels input one other first again a b).1;
}
