use Rattle.std.{proofs.Common.{◌≡◌, true, sym, ap, ◌∙◌, subst}, specs.{Bool.{then_some}, FinMap.{entries}}}
use Rattle.lab_history.specs.Version.{viewed}
use Rattle.lab_deps.{specs.{Broken.{lists_other, is_extra}, FirstOf.{IsLeastRow, first_value, least}}, proofs.BrokenRows.{mislisted_least, only_other}}
use Rattle.lab_deps.proofs.mislisted.mislisted_row.Goals as goal

pub returns-in-None : goal.returns-in-None
returns-in-None c =
    let h = c.args.history.now in
    let op = c.args.op.now in
    let same : c.least-in-None.result ≡ least (first_value (lists_other h op) (entries op.view)) (least (first_value (is_extra h op) (entries op.rows)) c.unlisted_row.result) = cc in
    subst (IsLeastRow (λ row. lists_other h op row (viewed op row) ≡ true)) (sym same) (mislisted_least h op c.unlisted_row.result c.unlisted_row.ensures)

pub returns-in-Some : goal.returns-in-Some
returns-in-Some c =
    let h = c.args.history.now in
    let op = c.args.op.now in
    let row = c.in-Some.row in
    let same : c.then_some.result ≡ then_some (lists_other h op row (viewed op row)) row = c.then_some.ensures ∙ ap (λ b. then_some b row) (c.lists_other.ensures ∙ ap (lists_other h op row) c.viewed.ensures) in
    subst (IsLeastRow (λ row. lists_other h op row (viewed op row) ≡ true)) (sym same) (only_other h op row c.in-Some.ensures)
