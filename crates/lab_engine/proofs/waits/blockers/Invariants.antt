use Rattle.lab_engine.proofs.{Common.{filter, has, take, ◌≡◌}, Rising.{sessions_of}}
use Rattle.lab_engine.proofs.waits.blockers.Given as goal

-- of the sessions so far, those that block the statement
abbrev pub invariant-loop-state : goal.invariant-loop-state
invariant-loop-state g l = l.on.items ≡ sessions_of (filter (λ state. has l.set state.session) (take l.state-index l.asker.situation.now.sessions))
