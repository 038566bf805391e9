use Rattle.lab_judge.proofs.StableReads.{stable_forward, stable_serial, stable_no_walk}
use Rattle.lab_judge.proofs.stable.stable_reads_are_serial.Goals as goal

pub returns : goal.returns
returns c = record {
  forward = λ level setup past h recorded stable. stable_forward recorded stable;
  serial = λ level setup past h recorded stable. stable_serial recorded stable;
  no_walk = λ level setup past h recorded stable. stable_no_walk recorded stable;
}
