use Rattle.std.proofs.Common.{◌≡◌, ◌<◌, ◌∙◌, ap, subst, arith}
use Rattle.lab_deps.proofs.Spans.{none_before}
use Rattle.lab_deps.proofs.span.from_of.Goals as goal

pub returns-in-Some : goal.returns-in-Some
returns-in-Some g c = λ k d low below.
    let row = c.row.result in
    let is : row.id ≡ c.least_id.result = ap (λ r. r.id) c.row.ensures ∙ c.in-Some.ensures.value in
    none_before c.args.statement.now row (ap (λ r. r.table) c.row.ensures) c.args.entries.now c.requires (λ other may. omega (arith, is, c.least_id.ensures other may)) k d
    (subst (λ n. k < n) c.place_of.ensures.value low)
