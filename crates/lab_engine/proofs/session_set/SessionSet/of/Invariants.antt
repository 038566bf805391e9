use Rattle.lab_engine.proofs.Common.{has, list_any, take, ℕ, ◌==◌, ◌≡◌}
use Rattle.lab_engine.proofs.session_set.SessionSet.of.Given as goal

-- the set has the sessions so far
abbrev pub invariant-loop-session : goal.invariant-loop-session
invariant-loop-session l = (n : ℕ) → has l.set n ≡ list_any (λ session. session == n) (take l.session-index l.sessions)
