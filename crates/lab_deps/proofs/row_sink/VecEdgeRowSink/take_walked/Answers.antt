use Rattle.std.proofs.lemmas.Result.{on_ok_weaker}
use Rattle.lab_deps.proofs.row_sink.VecEdgeRowSink.take_walked.Goals as goal

pub returns : goal.returns
returns c = on_ok_weaker c.add_edges.result (λ grows made es so_far fit. grows made es (so_far fit)) c.add_edges.ensures
