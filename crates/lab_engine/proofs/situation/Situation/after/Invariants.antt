use Rattle.lab_engine.{specs.declared.event.Level.TheVariants.{Committed as ReadCommitted}, proofs.Common.{Describes, past_of, take}}
use Rattle.lab_engine.proofs.situation.Situation.after.Given as goal

-- where the events so far leave sessions and rows
abbrev pub invariant-loop-event : goal.invariant-loop-event
invariant-loop-event l = Describes ReadCommitted (past_of (take l.event-index l.log)) l.situation
