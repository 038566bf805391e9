-- The history of a log, the calls of each session in it, which sessions may retry, and logs that follow a script.
use Rattle.std.specs.Prelude.{◌≡◌, ◌≢◌, ℕ, zero, suc, ◌+◌, ◌==◌, ◌<◌, nat_lt, Bool, true, false, ◌&&◌, ◌||◌, cond, Option, Some, None, is_some, is_none, IsSome, List, [], ◌∷◌, ◌++◌, ◌⊎◌, filter, count_by, ⊤}
use Rattle.std.specs.Prelude as list
use Rattle.std.specs.List.{list_any}
use Rattle.std.specs.FinMap as map
use Rattle.lab_table.specs.Row.{Row}
use Rattle.lab_table.specs.Table.{Table}
use Rattle.lab_table.specs.declared.statement.Statement.{Statement}
use Rattle.lab_table.specs.declared.statement.Command.{Command}
use Rattle.lab_table.specs.declared.statement.Command.TheVariants.{Abort}
use Rattle.lab_history.specs.History.{History}
use Rattle.lab_history.specs.declared.operation.Op.{Op}
use Rattle.lab_history.specs.declared.transaction.Txn.{Txn as Recorded}
use Rattle.lab_history.specs.declared.transaction.Outcome.{Outcome as End}
use Rattle.lab_history.specs.declared.transaction.Outcome.TheVariants.{Committed as EndCommitted, Aborted as EndAborted}
use Rattle.lab_engine.specs.declared.event.Level.{Level}
use Rattle.lab_engine.specs.declared.event.EngineFault.TheVariants.{Busy}
use Rattle.lab_engine.specs.declared.event.Outcome.{Outcome}
use Rattle.lab_engine.specs.declared.event.Outcome.TheVariants.{Rows as Listed, Waits, Refused}
use Rattle.lab_engine.specs.declared.event.LogEvent.{LogEvent}
use Rattle.lab_engine.specs.Log.{Past, Txn, ops_after, active, commits, committed_version, installers, waiting, begun}
use Rattle.lab_engine.specs.Rules.{IsLegal, IsFree, IsCircle}

-- whether a session's transaction has this number
abbrev pub has_number : ℕ → Option Txn → Bool
has_number number None = false
has_number number (Some txn) = txn.no == number

-- the operation that an event is, if it is one
abbrev pub op_of : Command → Outcome → List Op
op_of command (Listed view rows writes) = ops_after command view rows writes []
op_of command other = []

-- the operations of the transaction with this number, in order
abbrev pub ops_of : Past → ℕ → List Op
ops_of [] number = []
ops_of (event ∷ past) number = ops_of past number ++ cond (has_number number (active past event.session)) (op_of event.command event.outcome) []

-- whether the transaction with this number has committed
abbrev pub has_committed : Past → ℕ → Bool
has_committed past number = list_any (λ txn. txn.no == number) (commits past)

-- how a recording says that the transaction with this number ended: what hasn't committed has aborted
abbrev pub end_of : Past → ℕ → End
end_of past number = cond (has_committed past number) EndCommitted EndAborted

-- so many numbers, from the first on
abbrev pub numbers_from : ℕ → ℕ → List ℕ
numbers_from first zero = []
numbers_from first (suc count) = first ∷ numbers_from (suc first) count

-- a transaction as a recording has it
abbrev pub recorded_txn : Past → ℕ → Recorded
recorded_txn past number = record { no = number; outcome = end_of past number; ops = ops_of past number }

-- the transactions by rising number, each with its operations in order
abbrev pub recorded_txns : Past → List Recorded
recorded_txns past = list.map (recorded_txn past) (numbers_from 1 (begun past))

-- a list, if it isn't empty
abbrev pub if_any : List ℕ → Option (List ℕ)
if_any [] = None
if_any (x ∷ xs) = Some (x ∷ xs)

-- a history is the recording of a log: its initial table is the setup, the others are what the log says
pub record IsRecording (setup : Table) (past : Past) (history : History) : Type 0 where
  pub initial : history.initial ≡ setup
  pub txns : history.txns ≡ recorded_txns past
  pub installed : (row : Row) → map.get history.installed row ≡ if_any (installers past row)
  pub end_table : (row : Row) → map.get history.end_table row ≡ (committed_version setup past row).state

-- a legal log, and the history that is its recording
pub record IsLegalRecording (level : Level) (setup : Table) (past : Past) (history : History) : Type 0 where
  pub legal : IsLegal level setup past
  pub recording : IsRecording setup past history

-- whether an outcome answers its command
abbrev pub is_answer : Outcome → Bool
is_answer (Waits on) = false
is_answer other = true

-- the calls of a session: the answered events of a log that are its own, in order
abbrev pub calls : ℕ → List LogEvent → List LogEvent
calls session log = filter (λ event. event.session == session && is_answer event.outcome) log

-- a waiting session whose statement is free, or stands on a cycle
abbrev pub IsRetryable : Level → Table → Past → ℕ → Type 0
IsRetryable level setup past session = (s : Statement) × (waiting past session ≡ Some s)
    × (IsFree level setup past session s ⊎ ((circle : List ℕ) × IsCircle level setup past session s circle))

-- no session is retryable
abbrev pub NoneRetryable : Level → Table → Past → Type 0
NoneRetryable level setup past = (session : ℕ) → ¬ IsRetryable level setup past session

-- the least retryable session
abbrev pub IsLeastRetryable : Level → Table → Past → ℕ → Type 0
IsLeastRetryable level setup past session = IsRetryable level setup past session × ((other : ℕ) → other < session → ¬ IsRetryable level setup past other)

-- a line of a script: its session and its command
abbrev pub Line : Type 0
Line = ℕ × Command

-- how many lines a session has given: its events at which it wasn't waiting
abbrev pub given : Past → ℕ → ℕ
given [] session = 0
given (event ∷ past) session = cond (event.session == session && is_none (waiting past session)) 1 0 + given past session

-- how many of these lines are a session's
abbrev pub lines_by : ℕ → List Line → ℕ
lines_by session lines = count_by (λ line. line.0 == session) lines

-- the first line, after those passed, that isn't given and whose session isn't waiting
abbrev pub next_line : Past → List Line → List Line → Option Line
next_line past passed [] = None
next_line past passed (line ∷ lines) = cond (is_some (waiting past line.0) || nat_lt (lines_by line.0 passed) (given past line.0)) (next_line past (line ∷ passed) lines) (Some line)

-- a session that is active and doesn't wait
abbrev pub IsIdle : Past → ℕ → Type 0
IsIdle past session = IsSome (active past session) × (waiting past session ≡ None)

-- the least such session
abbrev pub IsLeastIdle : Past → ℕ → Type 0
IsLeastIdle past session = IsIdle past session × ((other : ℕ) → other < session → ¬ IsIdle past other)

-- an event is the next of a script: a retry of the least retryable session, else the next line, else an abort of the least idle session
abbrev pub FollowsScript : Level → Table → List Line → Past → LogEvent → Type 0
FollowsScript level setup lines past event =
    (IsLeastRetryable level setup past event.session × (event.outcome ≢ Refused Busy))
    ⊎ (NoneRetryable level setup past × (next_line past [] lines ≡ Some (event.session, event.command)))
    ⊎ (NoneRetryable level setup past × (next_line past [] lines ≡ None) × IsLeastIdle past event.session × (event.command ≡ Abort))

-- each event is the next of a script
abbrev pub AllFollowScript : Level → Table → List Line → Past → Type 0
AllFollowScript level setup lines [] = ⊤
AllFollowScript level setup lines (event ∷ past) = AllFollowScript level setup lines past × FollowsScript level setup lines past event

-- a log that follows a script to its end, where nothing is left to do
pub record IsScripted (level : Level) (setup : Table) (lines : List Line) (past : Past) : Type 0 where
  pub follows : AllFollowScript level setup lines past
  pub none_retryable : NoneRetryable level setup past
  pub none_left : next_line past [] lines ≡ None
  pub none_idle : (session : ℕ) → ¬ IsIdle past session
