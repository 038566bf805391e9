use Rattle.lab_engine.proofs.WaitGraphs.{AreWaitersUpTo}
use Rattle.lab_engine.proofs.wait_graph.WaitGraph.waiters.Given as goal

-- of the sessions so far those that wait for one in the set
abbrev pub invariant-loop-session : goal.invariant-loop-session
invariant-loop-session l = AreWaitersUpTo l.self l.set l.session-index l.waiters
