use Rattle.lab_script.{proofs.{Common.{◌+◌, ◌<◌, ◌∷◌, drop, length, sym, ap, subst, ◌∙◌, is_some, setup_table, token_table, with_named, drop_more, with_any}, FewTables.{over_all}}, specs.PassedTables.{setup_tables}}
use Rattle.lab_script.proofs.tables.add_setup_tokens.Goals as goal

pub returns-then-not-add_any : goal.returns-then-not-add_any
returns-then-not-add_any c =
    let xs = c.args.tokens.now in
    let i = c.loop-token.token-index in
    let x = c.token-item.result in
    let names = c.loop-token.tables.names in
    over_all (λ name. name) names _ (setup_table c.loop-token.named x) (setup_tables (is_some (token_table x)) (drop (i + 1) xs))
    (subst (λ t. 4 < length (with_any names t)) c.setup_table.ensures c.if-not-add_any.ensures)
    (ap (λ ts. with_named names (setup_tables c.loop-token.named ts)) (sym (drop_more xs i x c.loop-token-test.true ∙ ap (λ y. y ∷ drop (i + 1) xs) (sym c.token-item.is))) ∙ c.loop-token.invariant)
