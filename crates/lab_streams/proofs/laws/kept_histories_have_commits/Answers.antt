use Rattle.lab_streams.proofs.KeptReports.{kept_by_committed}
use Rattle.lab_streams.proofs.laws.kept_histories_have_commits.Goals as goal

pub returns : goal.returns
returns c = λ h report requirement exact kept. kept_by_committed h requirement report exact kept
