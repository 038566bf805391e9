-- The wait-for cycle that a deadlock reports: a shortest one, and of those the least, session by session.
use Rattle.std.specs.Prelude.{◌≡◌, ◌⊎◌, ℕ, ◌<◌, ◌≤◌, Some, List, [], ◌∷◌, length, ⊤}
use Rattle.lab_table.specs.Table.{Table}
use Rattle.lab_table.specs.declared.statement.Statement.{Statement}
use Rattle.lab_table.specs.declared.statement.Command.{Command}
use Rattle.lab_table.specs.declared.statement.Command.TheVariants.{Run}
use Rattle.lab_engine.specs.declared.event.Level.{Level}
use Rattle.lab_engine.specs.declared.event.EngineFault.TheVariants.{Deadlock}
use Rattle.lab_engine.specs.declared.event.Outcome.{Outcome}
use Rattle.lab_engine.specs.declared.event.Outcome.TheVariants.{Refused}
use Rattle.lab_engine.specs.Log.{Past, waiting}
use Rattle.lab_engine.specs.Rules.{IsCircle}

-- a list doesn't come after another, number by number as words in a dictionary
abbrev pub NotAfter : List ℕ → List ℕ → Type 0
NotAfter [] other = ⊤
NotAfter (n ∷ ns) [] = ⊥
NotAfter (n ∷ ns) (m ∷ ms) = (n < m) ⊎ ((n ≡ m) × NotAfter ns ms)

-- of the cycles on which a session stands that asks for a statement, one than which none is shorter, and of those of
-- its length the least, session by session from the front
pub record IsLeastCircle (level : Level) (setup : Table) (past : Past) (session : ℕ) (s : Statement) (circle : List ℕ) : Type 0 where
  pub is_circle : IsCircle level setup past session s circle
  pub shortest : (other : List ℕ) → IsCircle level setup past session s other → length circle ≤ length other
  pub least : (other : List ℕ) → IsCircle level setup past session s other → length other ≡ length circle → NotAfter circle other

-- where an outcome refuses a session's statement as a deadlock, its cycle is the least
abbrev pub NamesLeastCircle : Level → Table → Past → ℕ → Statement → Outcome → Type 0
NamesLeastCircle level setup past session s outcome = (circle : List ℕ) → outcome ≡ Refused (Deadlock circle) → IsLeastCircle level setup past session s circle

-- so it is of the statement that a command runs
abbrev pub NamesLeastOf : Level → Table → Past → ℕ → Command → Outcome → Type 0
NamesLeastOf level setup past session command outcome = (s : Statement) → command ≡ Run s → NamesLeastCircle level setup past session s outcome

-- so it is of the statement that a session waits with
abbrev pub NamesLeastOfWaiting : Level → Table → Past → ℕ → Outcome → Type 0
NamesLeastOfWaiting level setup past session outcome = (s : Statement) → waiting past session ≡ Some s → NamesLeastCircle level setup past session s outcome

-- so it is of each event of a log
abbrev pub AllNameLeast : Level → Table → Past → Type 0
AllNameLeast level setup [] = ⊤
AllNameLeast level setup (event ∷ past) = AllNameLeast level setup past × NamesLeastOf level setup past event.session event.command event.outcome
