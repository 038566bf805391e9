use Rattle.lab_streams.proofs.ToldFiles.{one_told}
use Rattle.lab_commands.{specs.Judging.{IsReportOf}, proofs.OneReport.{one_report}}
use Rattle.lab_commands.proofs.laws.judge_answer_unique.Goals as goal

pub returns : goal.returns
returns c = record {
  text = λ wanted input one other first again a b. (one_told wanted.format (IsReportOf wanted) (one_report wanted) input one other first again a b).0;
  ending = λ wanted input one other first again a b. (one_told wanted.format (IsReportOf wanted) (one_report wanted) input one other first again a b).1;
}
