-- A refusal because the log is full, told by what is done under the lock.
use Rattle.std.{proofs.{Common.{◌≡◌, ℕ, refl, Bool}, lemmas.Result.{IfErr-weaker}}, specs.Prelude.{Result, IfErr}}
use Rattle.lab_engine.specs.Journal.{EngineRun}
use Rattle.lab_session.specs.{declared.{bench.BenchFault.{BenchFault, TheVariants.{NoMemory, Full}}, fault.LabFault.{LabFault}}, Bench.{IsFull}, Seats.{Seated}, Waiting.{TellsFull, IsTold, lab_fault_of}, Free.{TellsSomeFull}}
use Rattle.lab_session.specs.declared.fault.LabFault.TheVariants as lab_fault

pub tells_full : (run : EngineRun) (fault : BenchFault) (waits : Bool) → (fault ≡ Full → IsFull run) → TellsFull run (lab_fault_of fault waits)
tells_full run NoMemory waits h = tt
tells_full run Full waits h = h refl

-- what is full of a lab is full of some log
told_full : (run : EngineRun) (fault : LabFault) → TellsFull run fault → TellsSomeFull fault
told_full run (lab_fault.NoMemory waits) h = tt
told_full run (lab_fault.Full waits) h = (run, h)
told_full run lab_fault.NothingWaiting h = tt

pub some_full : {A : Type 0} (Runs : EngineRun → Type 0) (session : ℕ) (result : Result A (Seated × LabFault)) → IfErr result (λ e. IsTold Runs session e.1) → IfErr result (λ e. TellsSomeFull e.1)
some_full Runs session result told = IfErr-weaker result _ _ (λ e h. told_full h.run e.1 h.full) told
