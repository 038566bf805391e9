-- The wait-for graph: for each session, by rising number, the set of sessions that it waits for.
use Rattle.std.specs.Prelude.{◌≡◌, ℕ, Bool, ◌&&◌, Some, List, [], ◌∷◌, Contains, IsTrue, ◌↔◌, unwrap_or}
use Rattle.std.specs.List.Sorted.{IsStrictlyIncreasing}
use Rattle.lab_table.specs.Sessions.{of_session}
use Rattle.lab_table.specs.Table.{Table}
use Rattle.lab_table.specs.declared.statement.Statement.{Statement}
use Rattle.lab_history.specs.HistoryRules.{AllDistinct}
use Rattle.lab_engine.specs.declared.event.Level.{Level}
use Rattle.lab_engine.specs.Log.{Past, waiting}
use Rattle.lab_engine.specs.Rules.{BlockedBy}
use Rattle.lab_engine.specs.SessionBits.{has}
pub use Rattle.lab_engine.specs.Sessions.{is_session}

-- whether one session waits for another
unfoldable pub waits_for : List ℕ → ℕ → ℕ → Bool
waits_for graph session other = is_session session && has (unwrap_or (of_session graph session) 0) other

-- one session waits for somebody in a set
abbrev pub WaitsForOne : List ℕ → ℕ → ℕ → Type 0
WaitsForOne graph set session = (other : ℕ) × IsTrue (waits_for graph session other) × IsTrue (has set other)

-- each session of a list waits for the next, the first one for the second, and the last for the goal
abbrev pub IsWalk : List ℕ → ℕ → List ℕ → ℕ → Type 0
IsWalk graph session [] goal = IsTrue (waits_for graph session goal)
IsWalk graph session (next ∷ rest) goal = IsTrue (waits_for graph session next) × IsWalk graph next rest goal

-- a list is a cycle: it begins with this session, goes from it back to it, and nobody stands in it twice
abbrev pub IsRound : List ℕ → ℕ → List ℕ → Type 0
IsRound graph session [] = ⊥
IsRound graph session (first ∷ rest) = (first ≡ session) × IsWalk graph session rest session × AllDistinct (first ∷ rest)

-- these are the sessions that block a session's statement, by rising number
pub record AreBlockers (level : Level) (setup : Table) (past : Past) (session : ℕ) (s : Statement) (on : List ℕ) : Type 0 where
  pub rising : IsStrictlyIncreasing on
  pub are : (other : ℕ) → Contains on other ↔ BlockedBy level setup past session s other

-- one session waits, with some statement, and another one blocks it
abbrev pub WaitsOn : Level → Table → Past → ℕ → ℕ → Type 0
WaitsOn level setup past session other = (s : Statement) × (waiting past session ≡ Some s) × BlockedBy level setup past session s other

-- the graph has who waits for whom after a log
abbrev pub AreWaits : Level → Table → Past → List ℕ → Type 0
AreWaits level setup past graph = (session other : ℕ) → IsTrue (waits_for graph session other) ↔ WaitsOn level setup past session other
