use Rattle.std.proofs.lemmas.Result.{IfOk-weaker}
use Rattle.lab_deps.proofs.listing.edges.Goals as goal

pub returns-clause-exact : goal.returns-clause-exact
returns-clause-exact c =
    let collected = c.in_ok-collected.ensures in
    IfOk-weaker c.in_order.result _ _
    (λ edges same e. (λ found. (collected e).0 ((same e).0 found), λ edge. (same e).1 ((collected e).1 edge)))
    c.in_order.ensures.same
