use Rattle.lab_engine.proofs.WaitGraphs.{no_waiters, all_waiters}
use Rattle.lab_engine.proofs.wait_graph.WaitGraph.waiters.Goals as goal

pub loop-session-init : goal.loop-session-init
loop-session-init c = no_waiters c.args.self.now c.args.set c.none-waiters.result c.none-waiters.ensures

pub returns : goal.returns
returns c = all_waiters c.args.self.now c.args.set c.loop-session.session-index c.loop-session.waiters c.loop-session-test.false c.loop-session.invariant
