use Rattle.lab_script.proofs.{Common.{◌+◌, ◌<◌, ◌∷◌, drop, length, sym, ap, subst, ◌∙◌, drop_more, with_any, with_all}, FewTables.{over_all}}
use Rattle.lab_script.proofs.tables.add_all.Goals as goal

pub returns-then-not-add_any : goal.returns-then-not-add_any
returns-then-not-add_any g c =
    let xs = c.args.items.now in
    let i = c.loop-item.item-index in
    let x = c.item-item.result in
    let names = c.loop-item.tables.names in
    over_all g.T.NamesTable.named names _ x (drop (i + 1) xs)
    (subst (λ t. 4 < length (with_any names t)) c.table.ensures c.if-not-add_any.ensures)
    (ap (with_all g.T.NamesTable.named names) (sym (drop_more xs i x c.loop-item-test.true ∙ ap (λ y. y ∷ drop (i + 1) xs) (sym c.item-item.is))) ∙ c.loop-item.invariant)
