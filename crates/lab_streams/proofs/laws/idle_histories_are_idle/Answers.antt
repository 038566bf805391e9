use Rattle.lab_streams.proofs.IdleReports.{nothing_committed}
use Rattle.lab_streams.proofs.laws.idle_histories_are_idle.Goals as goal

pub returns : goal.returns
returns c = nothing_committed
