use Rattle.std.{proofs.Common.{◌≡◌, true, rules, sym, ap, ◌∙◌, subst}}
use Rattle.lab_deps.{specs.{Broken.{is_missed, is_own_missed}, FirstOf.{IsLeastRow, first_value}}, proofs.MissedRows.{own_least}}
use Rattle.lab_deps.proofs.own.missed_of_view.Goals as goal

pub returns : goal.returns
returns c =
    let n = c.args.txn in
    let before = c.args.before.now in
    let op = c.args.op.now in
    let test = is_own_missed n c.args.number before op in
    subst (IsLeastRow (λ row. is_missed n c.args.number before op row ≡ true)) (sym (c.first_entry.ensures test (λ row v b post. search rules) ∙ ap (first_value test) c.entries.ensures))
    (own_least n c.args.number before op c.requires)
