use Rattle.lab_engine.proofs.Common.{drop, running_of, ◌≡◌}
use Rattle.lab_engine.proofs.situation.running_in.Given as goal

-- it is found among the states that are left as among all
abbrev pub invariant-loop-state : goal.invariant-loop-state
invariant-loop-state l = running_of (drop l.state-index l.states) l.session ≡ running_of l.states l.session
