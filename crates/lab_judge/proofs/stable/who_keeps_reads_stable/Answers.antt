use Rattle.std.proofs.Common.{refl}
use Rattle.lab_engine.specs.declared.event.Level.TheVariants.{Locking}
use Rattle.lab_judge.proofs.KeptReads.{locks_keep, reads_stable}
use Rattle.lab_judge.proofs.stable.who_keeps_reads_stable.Goals as goal

pub returns : goal.returns
returns c = record {
  locking = λ setup past. locks_keep Locking setup past refl;
  kept = λ level setup past kept legal. reads_stable level setup past legal kept;
}
