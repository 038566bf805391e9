use Rattle.lab_engine.proofs.Common.{AreWaits, Describes, IsRetryable, Level, Past, Table, ℕ, ◌≤◌}
use Rattle.lab_engine.proofs.waits.retryable.Given as goal

-- none of the sessions so far is retryable
abbrev pub invariant-loop-state : goal.invariant-loop-state
invariant-loop-state l = (level : Level) (setup : Table) (past : Past) → Describes level past l.situation → AreWaits level setup past l.situation.waits
    → (session : ℕ) → session ≤ l.state-index → IsRetryable level setup past session → ⊥
