use Rattle.lab_chain.proofs.KeptRuns.{kept_by_one}
use Rattle.lab_chain.proofs.laws.kept_runs_have_commits.Goals as goal

pub returns : goal.returns
returns c = λ ps requirement all kept. kept_by_one requirement ps all kept
