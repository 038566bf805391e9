-- What an engine decides before it changes anything.
use Rattle.std.specs.Prelude.{◌≡◌, ◌≢◌, ◌+◌, ◌≤◌, ℕ, Option, Some, None, is_some, List, length, count_by, ◌⊎◌, MatchOption}
use Rattle.lab_table.specs.Row.{Row}
use Rattle.lab_table.specs.Table.{Table}
use Rattle.lab_table.specs.declared.statement.Statement.{Statement}
use Rattle.lab_table.specs.declared.statement.Command.{Command}
use Rattle.lab_table.specs.declared.statement.Command.TheVariants.{Run}
use Rattle.lab_engine.specs.declared.event.Level.{Level}
use Rattle.lab_engine.specs.declared.event.EngineFault.{EngineFault}
use Rattle.lab_engine.specs.declared.event.EngineFault.TheVariants.{WriteConflict, Busy, ReadConflict}
use Rattle.lab_engine.specs.declared.rules.ConflictKind.{ConflictKind}
use Rattle.lab_engine.specs.declared.rules.ConflictKind.TheVariants.{Write, Read}
use Rattle.lab_engine.specs.declared.event.Outcome.{Outcome}
use Rattle.lab_engine.specs.declared.event.Outcome.TheVariants.{Refused}
use Rattle.lab_engine.specs.Log.{Past, active, waiting}
use Rattle.lab_engine.specs.Rules.{Permitted, IsLegal}
use Rattle.lab_engine.specs.WaitsFor.{AreWaits}
use Rattle.lab_engine.specs.Recording.{NoneRetryable, IsLeastRetryable}
use Rattle.lab_engine.specs.Sessions.{all_sessions}
use Rattle.lab_engine.specs.Situation.{Describes}
use Rattle.lab_engine.specs.LeastCircle.{NamesLeastOf}
use Rattle.lab_engine.specs.declared.situation.Situation.{Situation}

-- a session may give a command: it doesn't wait, or waits with that one
abbrev pub MayGive : Past → ℕ → Command → Type 0
MayGive past session command = (waiting past session ≡ None) ⊎ ((s : Statement) × (waiting past session ≡ Some s) × (command ≡ Run s))

-- an outcome is permitted, isn't Busy, and names the least cycle where it names one
abbrev pub Answers : Level → Table → Past → ℕ → Command → Outcome → Type 0
Answers level setup past session command outcome = Permitted level setup past session command outcome × (outcome ≢ Refused Busy)
    × NamesLeastOf level setup past session command outcome

-- the refusal of a commit for a conflict of this kind
abbrev pub conflict_fault : ConflictKind → Row → ℕ → EngineFault
conflict_fault Write row by = WriteConflict row by
conflict_fault Read row by = ReadConflict row by

-- a session is the least retryable one, or there is none
abbrev pub IsRetryChoice : Level → Table → Past → Option ℕ → Type 0
IsRetryChoice level setup past choice = MatchOption choice (NoneRetryable level setup past) (IsLeastRetryable level setup past)

-- how many of some sessions have an active transaction
abbrev pub active_among : Past → List ℕ → ℕ
active_among past sessions = count_by (λ session. is_some (active past session)) sessions

-- among so many places for events there is one for each event, and one for the end of each active transaction
abbrev pub HasPlacesOfEnds : Past → ℕ → Type 0
HasPlacesOfEnds past places = length past + active_among past all_sessions ≤ places

-- what is kept beside a legal log agrees with it: the session that is retryable, where the log leaves its sessions and rows, who waits for whom, and the room for events
pub record Keeps (level : Level) (setup : Table) (past : Past) (choice : Option ℕ) (kept : Situation) (places : ℕ) : Type 0 where
  pub legal : IsLegal level setup past
  pub retryable : IsRetryChoice level setup past choice
  pub situation : Describes level past kept
  pub waits : AreWaits level setup past kept.waits
  pub places_of_ends : HasPlacesOfEnds past places
