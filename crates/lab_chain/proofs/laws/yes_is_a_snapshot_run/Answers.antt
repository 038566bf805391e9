use Rattle.lab_chain.proofs.SnapshotRuns.{snapshot_in_parts}
use Rattle.lab_chain.proofs.laws.yes_is_a_snapshot_run.Goals as goal

pub returns : goal.returns
returns c = λ ps some all clear. snapshot_in_parts ps some all clear
