use Rattle.lab_optimistic.proofs.FirstReads.{first_found}
use Rattle.lab_optimistic.proofs.reads.first_read.Goals as goal

pub returns : goal.returns
returns c level past txn keeps asks = first_found level keeps past txn c.args.asker.now asks c.least_read.result c.least_read.ensures
