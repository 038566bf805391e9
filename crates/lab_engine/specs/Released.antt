-- When a waiting session may continue.
use Rattle.std.specs.Prelude.{◌≡◌, ℕ, false, List, ◌⊎◌}
use Rattle.lab_engine.specs.WaitsFor.{waits_for, IsRound}

-- it waits for nobody, or stands on a cycle
abbrev pub IsReleased : List ℕ → ℕ → Type 0
IsReleased graph session = ((other : ℕ) → waits_for graph session other ≡ false) ⊎ ((circle : List ℕ) × IsRound graph session circle)
