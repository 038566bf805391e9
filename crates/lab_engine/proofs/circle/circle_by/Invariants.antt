use Rattle.lab_engine.proofs.{Common.{◌≤◌}, WaitLayers.{GoesOn}}
use Rattle.lab_engine.proofs.circle.circle_by.Given as goal

-- the cycle so far goes on from the session that was reached
abbrev pub invariant-loop-left : goal.invariant-loop-left
invariant-loop-left l = (l.left ≤ l.between) × GoesOn l.waits l.fn.session l.between l.left l.at l.circle.items
