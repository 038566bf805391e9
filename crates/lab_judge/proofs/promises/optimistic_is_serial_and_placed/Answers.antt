use Rattle.std.proofs.Common.{refl}
use Rattle.lab_judge.proofs.KeptPromises.{forward_order, serial_run, forward_placing, snapshot_run, judged_serial, judged_placed}
use Rattle.lab_judge.proofs.promises.optimistic_is_serial_and_placed.Goals as goal

pub returns : goal.returns
returns c = record {
  forward = λ setup past h recorded. forward_order refl recorded;
  serial = λ setup past h recorded. serial_run refl recorded;
  placed = λ setup past h recorded. forward_placing refl recorded;
  run = λ setup past h recorded. snapshot_run refl recorded;
  judged = λ setup past h report recorded exact. (judged_serial refl recorded report exact, judged_placed refl recorded report exact);
}
