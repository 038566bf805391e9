-- What the threads of a free play return, and when a refusal of one is true.
use Rattle.std.specs.Prelude.{◌≡◌, ◌≢◌, ℕ, ◌≤◌, ◌<◌, List, [], ◌∷◌, ◌++◌, Option, Some, None, IfSome, map, length, take, slice_index_or}
use Rattle.std.specs.List.{All}
use Rattle.lab_table.specs.Table.{Table}
use Rattle.lab_table.specs.declared.statement.Command.{Command}
use Rattle.lab_engine.specs.declared.event.Level.{Level}
use Rattle.lab_engine.specs.declared.event.LogEvent.{LogEvent}
use Rattle.lab_engine.specs.Log.{past_of}
use Rattle.lab_engine.specs.Journal.{EngineRun}
use Rattle.lab_engine.specs.Recording.{Line}
use Rattle.lab_engine.specs.OverLimit.{BreaksLimit}
use Rattle.lab_history.specs.declared.fault.Limit.{Limit}
use Rattle.lab_session.specs.declared.seat.Call.{Call}
use Rattle.lab_session.specs.declared.fault.LabFault.{LabFault}
use Rattle.lab_session.specs.declared.fault.LabFault.TheVariants as lab_fault
use Rattle.lab_session.specs.Seats.{Seated}
use Rattle.lab_session.specs.Bench.{IsSoundRun, IsFull}
use Rattle.lab_session.specs.declared.free.Ended.{Ended}
use Rattle.lab_session.specs.declared.fault.PlayFault.{PlayFault}
use Rattle.lab_session.specs.declared.fault.PlayFault.TheVariants.{NoMemory, OverLimit, Close, NoThread, Full}
use Rattle.lab_session.specs.Play.{AreCommandsOf, IsPlayed}

-- the commands of a seat's calls, in order
abbrev pub commands_in : List Call → List Command
commands_in calls = map (λ call. call.command) calls

-- a seat's calls are the commands of its session's lines, then at most one abort
abbrev pub IsPlayedSeat : List Line → Seated → Type 0
IsPlayedSeat lines seat = AreCommandsOf seat.session lines (commands_in seat.calls)

-- a seat's list has one more command
pub record HasOneMore (old new : Seated) (command : Command) : Type 0 where
  pub session : new.session ≡ old.session
  pub commands : commands_in new.calls ≡ commands_in old.calls ++ command ∷ []

-- a fault is that of the first thread that has one
pub record IsFirstOf (ended : List Ended) (fault : LabFault) : Type 0 where
  pub place : ℕ
  pub one : Ended
  pub within : place < length ended
  pub stands : one ≡ slice_index_or ended place one
  pub has : one.fault ≡ Some fault
  pub before : All (λ e. e.fault ≡ None) (take place ended)

-- a seat that has given nothing
abbrev pub IsUnused : Seated → Type 0
IsUnused seat = seat.calls ≡ []

-- some legal log is full where that is told
abbrev pub TellsSomeFull : LabFault → Type 0
TellsSomeFull (lab_fault.NoMemory waits) = Unit {0}
TellsSomeFull (lab_fault.Full waits) = (run : EngineRun) × IsFull run
TellsSomeFull lab_fault.NothingWaiting = Unit {0}

-- a fault that a thread may give back: it submits before it resumes, and some log that is told to be full is
abbrev pub IsRefusal : Option LabFault → Type 0
IsRefusal fault = (fault ≢ Some lab_fault.NothingWaiting) × IfSome fault TellsSomeFull

-- a thread's seat has all that its session gives, where nothing was refused
pub record IsEnded (lines : List Line) (seat : Seated) (fault : Option LabFault) : Type 0 where
  pub played : fault ≡ None → IsPlayedSeat lines seat
  pub refusal : IsRefusal fault

-- each seat has all that its session gives
abbrev pub AllPlayed : List Line → List Seated → Type 0
AllPlayed lines seats = All (IsPlayedSeat lines) seats

-- the calls of each session from 1 to 9 are the commands of its lines, then at most one abort
abbrev pub AllSessionsPlayed : List Line → List LogEvent → Type 0
AllSessionsPlayed lines log = (session : ℕ) → 1 ≤ session → session ≤ 9 → IsPlayed session lines log

-- why the threads of a play stop: memory was wanting, a thread wasn't given, or a legal log was full
abbrev pub IsStop : PlayFault → Type 0
IsStop NoMemory = Unit {0}
IsStop (OverLimit which) = ⊥
IsStop (Close fault) = ⊥
IsStop NoThread = Unit {0}
IsStop Full = (run : EngineRun) × IsFull run

-- a legal log of such a play at a level and on a setup, which breaks a limit
pub record IsOverLimit (level : Level) (setup : Table) (lines : List Line) (which : Limit) : Type 0 where
  pub run : EngineRun
  pub at_level : run.level ≡ level
  pub on_setup : run.setup ≡ setup
  pub sound : IsSoundRun run
  pub played : AllSessionsPlayed lines run.log
  pub breaks : BreaksLimit setup (past_of run.log) which

-- why a free play has no recording: a log of such a play breaks a limit, or a legal log is full; what seats of a lock's log say, and which threads were given, no definition says
abbrev pub IsFreeFault : Level → Table → List Line → PlayFault → Type 0
IsFreeFault level setup lines NoMemory = Unit {0}
IsFreeFault level setup lines (OverLimit which) = IsOverLimit level setup lines which
IsFreeFault level setup lines (Close fault) = Unit {0}
IsFreeFault level setup lines NoThread = Unit {0}
IsFreeFault level setup lines Full = (run : EngineRun) × IsFull run
