use Rattle.std.proofs.{Common.{◌∙◌, ap, sym, Some, None, cond}, lemmas.Bool.{ltb-true, ltb-false}}
use Rattle.lab_table.proofs.Searching.{found_nothing, found_entry}
use Rattle.lab_deps.proofs.near.value_at.Goals as goal

pub returns-in_err-entry : goal.returns-in_err-entry
returns-in_err-entry g c =
    c.from_residual.ensures
    ∙ sym (found_nothing c.args.row c.args.entries.now c.args.place c.requires.sorted c.requires.place (ltb-false _ _ (sym c.in_err-entry.ensures.lookup.0)))

pub returns-then-eq : goal.returns-then-eq
returns-then-eq g c =
    sym (found_entry c.args.row c.args.entries.now c.args.place c.in_ok-entry.entry.now c.eq.result c.requires.sorted c.requires.place
    (ltb-true _ _ (sym c.in_ok-entry.ensures.lookup.0)) c.in_ok-entry.ensures.lookup.1 c.eq.ensures
    ∙ ap (λ b. cond b (Some c.in_ok-entry.entry.now.1) None) c.if-eq.true)

pub returns-else-eq : goal.returns-else-eq
returns-else-eq g c =
    sym (found_entry c.args.row c.args.entries.now c.args.place c.in_ok-entry.entry.now c.eq.result c.requires.sorted c.requires.place
    (ltb-true _ _ (sym c.in_ok-entry.ensures.lookup.0)) c.in_ok-entry.ensures.lookup.1 c.eq.ensures
    ∙ ap (λ b. cond b (Some c.in_ok-entry.entry.now.1) None) c.if-eq.false)
