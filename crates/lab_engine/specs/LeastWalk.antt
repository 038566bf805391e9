-- Paths in the wait-for graph, by their lengths.
use Rattle.std.specs.Prelude.{◌≡◌, ◌<◌, ◌≤◌, ◌+◌, ℕ, List, ◌∷◌, IsTrue, ◌↔◌, get_or, length}
use Rattle.lab_engine.specs.SessionBits.{has}
use Rattle.lab_engine.specs.WaitsFor.{IsRound, IsWalk}
use Rattle.lab_engine.specs.LeastCircle.{NotAfter}

-- a walk leads from a session to a goal, with so many between
abbrev pub Leads : List ℕ → ℕ → ℕ → ℕ → Type 0
Leads graph between session goal = (rest : List ℕ) × (length rest ≡ between) × IsWalk graph session rest goal

-- below a bound, for each number of sessions between, those from which such a walk leads to the goal
abbrev pub AreLayers : List ℕ → ℕ → ℕ → List ℕ → Type 0
AreLayers graph goal bound layers = (between : ℕ) → between < bound → (session : ℕ) → IsTrue (has (get_or layers between 0) session) ↔ Leads graph between session goal

-- of the walks with so many between, one that comes after none of them
pub record IsLeastWalk (graph : List ℕ) (between session goal : ℕ) (rest : List ℕ) : Type 0 where
  pub size : length rest ≡ between
  pub walk : IsWalk graph session rest goal
  pub least : (other : List ℕ) → IsWalk graph session other goal → length other ≡ between → NotAfter rest other

-- a cycle of the graph: none of its walks from the session back to it is shorter, and none of its length comes before it
pub record IsLeastRound (graph : List ℕ) (session : ℕ) (circle : List ℕ) : Type 0 where
  pub round : IsRound graph session circle
  pub shortest : (rest : List ℕ) → IsWalk graph session rest session → length circle ≤ 1 + length rest
  pub least : (rest : List ℕ) → IsWalk graph session rest session → length circle ≡ 1 + length rest → NotAfter circle (session ∷ rest)
