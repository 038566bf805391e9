use Rattle.std.proofs.Common.{◌≤◌, subst}
use Rattle.lab_deps.proofs.Spans.{none_behind}
use Rattle.lab_deps.proofs.span.to_of.Goals as goal

pub returns-in-Some-clause-beyond : goal.returns-in-Some-clause-beyond
returns-in-Some-clause-beyond g c = λ k d at below.
    none_behind c.args.statement.now c.in-Some.row c.in-Some.ensures.table c.args.entries.now c.requires c.in-Some.ensures.beyond k d (subst (λ n. n ≤ k) c.place_of.ensures.value at) below
