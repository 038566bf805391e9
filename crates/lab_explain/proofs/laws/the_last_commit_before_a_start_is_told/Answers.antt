use Rattle.lab_explain.proofs.LastCommits.{is_last}
use Rattle.lab_explain.proofs.laws.the_last_commit_before_a_start_is_told.Goals as goal

pub returns : goal.returns
returns c = λ place spans. is_last place spans
