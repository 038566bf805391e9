use Rattle.lab_engine.proofs.Common.{Gathers, past_of, take}
use Rattle.lab_engine.proofs.gathering.gathered_txns.Given as goal

-- what the events so far tell
abbrev pub invariant-loop-event : goal.invariant-loop-event
invariant-loop-event l = Gathers (past_of (take l.event-index l.log)) l.gathered
