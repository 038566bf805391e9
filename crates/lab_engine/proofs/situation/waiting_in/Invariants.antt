use Rattle.lab_engine.proofs.Common.{drop, waiting_of, ◌≡◌}
use Rattle.lab_engine.proofs.situation.waiting_in.Given as goal

-- it is found among the states that are left as among all
abbrev pub invariant-loop-state : goal.invariant-loop-state
invariant-loop-state l = waiting_of (drop l.state-index l.states) l.session ≡ waiting_of l.states l.session
