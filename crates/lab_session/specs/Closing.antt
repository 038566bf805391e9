-- When the handles of a run agree with its log, and why a run can't be closed.
use Rattle.std.specs.Prelude.{◌≡◌, ℕ, ◌≤◌, ◌<◌, ◌==◌, List, count_by, Contains}
use Rattle.std.specs.List.{All}
use Rattle.lab_table.specs.Table.{Table}
use Rattle.lab_engine.specs.declared.event.Level.{Level}
use Rattle.lab_engine.specs.declared.event.LogEvent.{LogEvent}
use Rattle.lab_engine.specs.declared.recording.RecordFault.{RecordFault}
use Rattle.lab_engine.specs.declared.recording.RecordFault.TheVariants as record_fault
use Rattle.lab_engine.specs.Log.{past_of}
use Rattle.lab_engine.specs.Journal.{EngineRun}
use Rattle.lab_engine.specs.OverLimit.{BreaksLimit}
use Rattle.lab_session.specs.Bench.{IsSoundRun}
use Rattle.lab_session.specs.Seats.{Seated, placed_calls, DifferFirst}
use Rattle.lab_session.specs.declared.fault.CloseFault.{CloseFault}
use Rattle.lab_session.specs.declared.fault.CloseFault.TheVariants.{NoMemory, SeatMissing, ReceiptDiffers, OverLimit, SeatRepeated}

-- how many of the seats are a session's
abbrev pub seats_of : ℕ → List Seated → ℕ
seats_of session seats = count_by (λ seat. seat.session == session) seats

-- the lists of a session's seats are its calls in a log
abbrev pub AgreeOf : List LogEvent → List Seated → ℕ → Type 0
AgreeOf log seats session = All (λ seat. seat.session ≡ session → seat.calls ≡ placed_calls session log) seats

-- the list of a seat of a session differs first from its calls in a log at a place
abbrev pub DifferAt : List LogEvent → List Seated → ℕ → ℕ → Type 0
DifferAt log seats session place = (seat : Seated) × Contains seats seat × (seat.session ≡ session) × DifferFirst seat.calls (placed_calls session log) place

-- no session has two seats
abbrev pub NoneRepeated : List Seated → Type 0
NoneRepeated seats = (session : ℕ) → 1 ≤ session → session < 10 → seats_of session seats ≤ 1

-- each session up to this number has a seat
abbrev pub NoneMissing : ℕ → List Seated → Type 0
NoneMissing sessions seats = (session : ℕ) → 1 ≤ session → session ≤ sessions → 1 ≤ seats_of session seats

-- the seats' lists are the calls of a log
abbrev pub AllAgree : List LogEvent → List Seated → Type 0
AllAgree log seats = (session : ℕ) → 1 ≤ session → session < 10 → AgreeOf log seats session

-- the least session that has two seats
pub record IsLeastRepeated (seats : List Seated) (session : ℕ) : Type 0 where
  pub twice : 1 < seats_of session seats
  pub least : (other : ℕ) → 1 ≤ other → other < session → seats_of other seats ≤ 1

-- the least session up to this number that has no seat
pub record IsLeastMissing (sessions : ℕ) (seats : List Seated) (session : ℕ) : Type 0 where
  pub from : 1 ≤ session
  pub within : session ≤ sessions
  pub missing : seats_of session seats ≡ 0
  pub least : (other : ℕ) → 1 ≤ other → other < session → 1 ≤ seats_of other seats

-- the least session of which a seat's list differs from its calls, and the first place at which one does
pub record IsLeastDiffering (log : List LogEvent) (seats : List Seated) (session place : ℕ) : Type 0 where
  pub differs : DifferAt log seats session place
  pub least : (other : ℕ) → 1 ≤ other → other < session → AgreeOf log seats other

-- one seat of each session up to this number, none of another session twice, and their lists are the calls of a log
pub record AreClosed (sessions : ℕ) (log : List LogEvent) (seats : List Seated) : Type 0 where
  pub repeated : NoneRepeated seats
  pub missing : NoneMissing sessions seats
  pub agree : AllAgree log seats

-- what a refusal to close says, in the order in which each is looked for; memory may be wanting at any time
abbrev pub IsCloseFault : ℕ → EngineRun → List Seated → CloseFault → Type 0
IsCloseFault sessions run seats NoMemory = Unit {0}
IsCloseFault sessions run seats (SeatRepeated session) = IsLeastRepeated seats session
IsCloseFault sessions run seats (SeatMissing session) = NoneRepeated seats × IsLeastMissing sessions seats session
IsCloseFault sessions run seats (ReceiptDiffers session place) = NoneRepeated seats × NoneMissing sessions seats × IsLeastDiffering run.log seats session place
IsCloseFault sessions run seats (OverLimit which) = AreClosed sessions run.log seats × BreaksLimit run.setup (past_of run.log) which

-- a refusal to close is right of some bench at this level and on this setup
abbrev pub IsLabCloseFault : Level → Table → ℕ → List Seated → CloseFault → Type 0
IsLabCloseFault level setup sessions seats fault = (run : EngineRun) × (run.level ≡ level) × (run.setup ≡ setup) × IsSoundRun run × IsCloseFault sessions run seats fault

-- why a run isn't closed, where the log has no recording
abbrev pub close_fault_of : RecordFault → CloseFault
close_fault_of record_fault.NoMemory = NoMemory
close_fault_of (record_fault.OverLimit which) = OverLimit which
