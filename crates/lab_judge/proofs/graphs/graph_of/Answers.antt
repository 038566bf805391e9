use Rattle.std.proofs.Common.{◌∙◌}
use Rattle.lab_judge.proofs.Growing.{is_graph}
use Rattle.lab_judge.proofs.graphs.graph_of.Goals as goal

pub returns : goal.returns
returns c = is_graph (c.in_ok-graph.ensures.nodes ∙ c.len.ensures.count) c.in_ok-graph.ensures.arrows c.in_ok-add_arrows.ensures
