-- What a session handle holds after a refused call, and what the refusal states.
use Rattle.std.specs.Prelude.{◌≡◌, ℕ, Bool, true, false, cond, Some, None, IsSome}
use Rattle.lab_table.specs.declared.statement.Command.{Command}
use Rattle.lab_engine.specs.Journal.{EngineRun}
use Rattle.lab_engine.specs.Log.{past_of, waiting}
use Rattle.lab_session.specs.declared.bench.BenchFault.{BenchFault}
use Rattle.lab_session.specs.declared.bench.BenchFault.TheVariants as bench_fault
use Rattle.lab_session.specs.declared.fault.LabFault.{LabFault}
use Rattle.lab_session.specs.declared.fault.LabFault.TheVariants.{NoMemory, Full, NothingWaiting}
use Rattle.lab_session.specs.Seats.{Seated}
use Rattle.lab_session.specs.Bench.{IsFull}

-- whether the command that was refused still waits
abbrev pub still_waits : LabFault → Bool
still_waits (NoMemory waits) = waits
still_waits (Full waits) = waits
still_waits NothingWaiting = false

-- a seat whose command was refused: it holds the command where that still waits, else what it held
abbrev pub handed_back : Seated → Command → LabFault → Seated
handed_back seat command fault = record { session = seat.session; calls = seat.calls; holds = cond (still_waits fault) (Some command) seat.holds }

-- why a call in a lab was refused, where its bench refused
abbrev pub lab_fault_of : BenchFault → Bool → LabFault
lab_fault_of bench_fault.NoMemory waits = NoMemory waits
lab_fault_of bench_fault.Full waits = Full waits

-- a log is told to be full only where it is
abbrev pub TellsFull : EngineRun → LabFault → Type 0
TellsFull run (NoMemory waits) = Unit {0}
TellsFull run (Full waits) = IsFull run
TellsFull run NothingWaiting = Unit {0}

-- what a refusal says is so of a log of the lab: that it's full, and that a command of the session waits in it
pub record IsTold (Runs : EngineRun → Type 0) (session : ℕ) (fault : LabFault) : Type 0 where
  pub run : EngineRun
  pub of_lab : Runs run
  pub full : TellsFull run fault
  pub waits : still_waits fault ≡ true → IsSome (waiting (past_of run.log) session)

-- so it is of a command that a seat held, and it is told not to wait only where none of the session waits
pub record IsToldOfHeld (Runs : EngineRun → Type 0) (session : ℕ) (fault : LabFault) : Type 0 where
  pub told : IsTold Runs session fault
  pub rests : still_waits fault ≡ false → waiting (past_of told.run.log) session ≡ None
