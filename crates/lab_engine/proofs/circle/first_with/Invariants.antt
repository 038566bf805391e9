use Rattle.lab_engine.proofs.Common.{false, get_or, has, ℕ, ◌<◌, ◌≡◌}
use Rattle.lab_engine.proofs.circle.first_with.Given as goal

-- no layer so far has the session
abbrev pub invariant-loop-between : goal.invariant-loop-between
invariant-loop-between l = (k : ℕ) → k < l.between → has (get_or l.layers k 0) l.session ≡ false
