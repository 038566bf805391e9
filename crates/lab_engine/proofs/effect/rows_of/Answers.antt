use Rattle.lab_engine.proofs.{Common.{ap, from_sorted, get, get-from_sorted, insert_is, row_cmp, sym, [], ◌∙◌}, Effects.{lists_matched}}
use Rattle.lab_engine.proofs.effect.rows_of.Goals as goal

pub returns-in-Some : goal.returns-in-Some
returns-in-Some c = λ sees are row.
    ap (λ m. get m row) c.new-in-Some.ensures
    ∙ ap (λ l. get (from_sorted {R = row_cmp} l) row) c.new.ensures.items ∙ get-from_sorted row_cmp [] row tt
    ∙ sym ((insert_is c.args.statement.now _ _ (sym c.inserted.ensures ∙ c.in-Some.is)).lists_none row (sees row).state)

pub returns-in-None : goal.returns-in-None
returns-in-None c = λ sees are row.
    ap (λ m. get m row) c.new-in-None.ensures ∙ get-from_sorted row_cmp c.args.matching.items row c.requires
    ∙ are.found row ∙ sym (lists_matched c.args.statement.now (sym c.inserted.ensures ∙ c.in-None.is) row (sees row).state)
