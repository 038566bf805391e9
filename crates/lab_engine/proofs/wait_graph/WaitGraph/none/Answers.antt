use Rattle.lab_engine.proofs.WaitGraphs.{none_wait}
use Rattle.lab_engine.proofs.wait_graph.WaitGraph.none.Goals as goal

pub returns : goal.returns
returns c = none_wait c.all.result c.none.result c.none.ensures c.all.ensures.each
