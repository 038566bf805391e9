-- What one turn under a lab's lock does to the log and to a session handle, and which turns return a result.
use Rattle.std.specs.Prelude.{◌≡◌, ◌⊎◌, Bool, true, false, Some, None, length}
use Rattle.lab_table.specs.declared.statement.Command.{Command}
use Rattle.lab_engine.specs.Engine.{IsStep, IsRetry}
use Rattle.lab_engine.specs.Journal.{EngineRun}
use Rattle.lab_engine.specs.Log.{past_of, waiting}
use Rattle.lab_engine.specs.Recording.{is_answer, IsLeastRetryable}
use Rattle.lab_session.specs.declared.bench.Receipt.{Receipt}
use Rattle.lab_session.specs.Seats.{Seated, GrowsBy}

-- a seat that holds a command, in the place of one that it held
abbrev pub holding : Seated → Command → Seated
holding seat command = record { session = seat.session; calls = seat.calls; holds = Some command }

-- a seat that holds no command
abbrev pub resting : Seated → Seated
resting seat = record { session = seat.session; calls = seat.calls; holds = None }

-- a command of a seat's session was stepped: the log has one event more, that of the command; answered, the seat's list has it with that event's receipt, else the seat holds it
pub record IsStepped (old new : EngineRun) (seat after : Seated) (command : Command) (answered : Bool) : Type 0 where
  pub receipt : Receipt
  pub step : IsStep old.level old.setup old.log new.log seat.session command receipt.outcome
  pub place : receipt.place ≡ length new.log
  pub answer : is_answer receipt.outcome ≡ answered
  pub listed : answered ≡ true → GrowsBy seat after command receipt
  pub kept : answered ≡ true → after.holds ≡ seat.holds
  pub held : answered ≡ false → after ≡ holding seat command

-- the command of a seat's session was retried, as is due: the log has one event more, which answers the statement that waits; the seat's list has the command that it held with that event's receipt
pub record IsRetried (old new : EngineRun) (seat after : Seated) : Type 0 where
  pub due : IsLeastRetryable old.level old.setup (past_of old.log) seat.session
  pub receipt : Receipt
  pub retry : IsRetry old.level old.setup old.log new.log seat.session receipt.outcome
  pub place : receipt.place ≡ length new.log
  pub command : Command
  pub held : seat.holds ≡ Some command
  pub listed : GrowsBy seat after command receipt
  pub rests : after.holds ≡ None

-- it was stepped in a lab
pub record IsSteppedIn (Runs : EngineRun → Type 0) (old : EngineRun) (seat after : Seated) (command : Command) (answered : Bool) : Type 0 where
  pub before : Runs old
  pub new : EngineRun
  pub behind : Runs new
  pub stepped : IsStepped old new seat after command answered

-- it was retried in a lab
pub record IsRetriedIn (Runs : EngineRun → Type 0) (seat after : Seated) : Type 0 where
  pub old : EngineRun
  pub before : Runs old
  pub new : EngineRun
  pub behind : Runs new
  pub retried : IsRetried old new seat after

-- a command was answered that was stepped behind a log: at once, and then the seat holds what it held; or it waited, the seat held it, and since it was retried the seat holds none
abbrev pub IsAnswered : (EngineRun → Type 0) → EngineRun → Seated → Seated → Command → Type 0
IsAnswered Runs old seat after command = IsSteppedIn Runs old seat after command true
    ⊎ (IsSteppedIn Runs old seat (holding seat command) command false × IsRetriedIn Runs (holding seat command) after)

-- the command that a seat held was answered: it waited in the lab, and was retried; or none of its session did, and it was stepped as a new one of a seat that holds none
abbrev pub IsGoneOn : (EngineRun → Type 0) → Seated → Seated → Type 0
IsGoneOn Runs seat after = IsRetriedIn Runs seat after
    ⊎ ((old : EngineRun) × (command : Command) × (seat.holds ≡ Some command) × (waiting (past_of old.log) seat.session ≡ None) × IsAnswered Runs old (resting seat) after command)
