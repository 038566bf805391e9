use Rattle.lab_script.proofs.{Common.{◌+◌, ◌<◌, ◌∷◌, drop, length, sym, ap, subst, ◌∙◌, is_behind_set, statement_table, statement_tables, with_named, drop_more, with_any}, FewTables.{over_all}}
use Rattle.lab_script.proofs.tables.add_tokens.Goals as goal

pub returns-then-not-add_any : goal.returns-then-not-add_any
returns-then-not-add_any c =
    let xs = c.args.tokens.now in
    let i = c.loop-token.token-index in
    let x = c.token-item.result in
    let names = c.loop-token.tables.names in
    over_all (λ name. name) names _ (statement_table c.loop-token.behind x) (statement_tables (is_behind_set c.loop-token.behind x) (drop (i + 1) xs))
    (subst (λ t. 4 < length (with_any names t)) c.statement_table.ensures c.if-not-add_any.ensures)
    (ap (λ ts. with_named names (statement_tables c.loop-token.behind ts)) (sym (drop_more xs i x c.loop-token-test.true ∙ ap (λ y. y ∷ drop (i + 1) xs) (sym c.token-item.is))) ∙ c.loop-token.invariant)
