use Rattle.lab_judge.proofs.KeptPromises.{forward_order, serial_run, no_walk, judged_serial}
use Rattle.lab_judge.proofs.promises.kept_reads_are_serial.Goals as goal

pub returns : goal.returns
returns c = record {
  forward = λ level setup past h kept recorded. forward_order kept recorded;
  serial = λ level setup past h kept recorded. serial_run kept recorded;
  no_walk = λ level setup past h kept recorded. no_walk kept recorded;
  judged = λ level setup past h report kept recorded exact. judged_serial kept recorded report exact;
}
