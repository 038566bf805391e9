use Rattle.lab_commands.proofs.OneRun.{one_run}
use Rattle.lab_commands.proofs.laws.run_answer_unique.Goals as goal

pub returns : goal.returns
returns c = record {
  text = λ level shown wanted input one other first again a b. (one_run level shown wanted input one other first again a b).0;
  ending = λ level shown wanted input one other first again a b. (one_run level shown wanted input one other first again a b).1;
}
