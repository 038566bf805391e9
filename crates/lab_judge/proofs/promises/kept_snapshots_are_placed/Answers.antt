use Rattle.lab_judge.proofs.KeptPromises.{forward_placing, snapshot_run, no_circle, judged_placed}
use Rattle.lab_judge.proofs.promises.kept_snapshots_are_placed.Goals as goal

pub returns : goal.returns
returns c = record {
  forward = λ level setup past h kept recorded. forward_placing kept recorded;
  run = λ level setup past h kept recorded. snapshot_run kept recorded;
  no_circle = λ level setup past h kept recorded. no_circle kept recorded;
  judged = λ level setup past h report kept recorded exact. judged_placed kept recorded report exact;
}
