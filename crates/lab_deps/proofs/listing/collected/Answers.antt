use Rattle.std.proofs.lemmas.Result.{IfOk-weaker}
use Rattle.lab_deps.proofs.CollectedEdges.{collected_is_edge, edge_is_collected}
use Rattle.lab_deps.proofs.listing.collected.Goals as goal

pub returns : goal.returns
returns c =
    let h = c.args.history.now in
    IfOk-weaker c.edges_of_txns.result _ _
    (λ edges has e. (λ found. collected_is_edge h c.requires e ((has e).0 found), λ edge. (has e).1 (edge_is_collected h e edge)))
    c.edges_of_txns.ensures
