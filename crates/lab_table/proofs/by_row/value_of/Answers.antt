use Rattle.std.{proofs.{Common.{◌∙◌, ap, sym, Some, None, cond}, lemmas.Bool.{ltb-true, ltb-false}}, specs.Option.{option_copied}}
use Rattle.lab_table.proofs.Searching.{found_nothing, found_entry}
use Rattle.lab_table.proofs.by_row.value_of.Goals as goal

pub returns-in_err-entry : goal.returns-in_err-entry
returns-in_err-entry g c =
    ap option_copied c.from_residual.ensures
    ∙ sym (found_nothing c.args.row c.args.entries.now c.place_of.result c.requires c.place_of.ensures.value (ltb-false _ _ (sym c.in_err-entry.ensures.lookup.0)))

pub returns-then-eq : goal.returns-then-eq
returns-then-eq g c =
    sym (found_entry c.args.row c.args.entries.now c.place_of.result c.in_ok-entry.entry.now c.eq.result c.requires c.place_of.ensures.value
    (ltb-true _ _ (sym c.in_ok-entry.ensures.lookup.0)) c.in_ok-entry.ensures.lookup.1 c.eq.ensures
    ∙ ap (λ b. cond b (Some c.in_ok-entry.entry.now.1) None) c.if-eq.true)

pub returns-else-eq : goal.returns-else-eq
returns-else-eq g c =
    sym (found_entry c.args.row c.args.entries.now c.place_of.result c.in_ok-entry.entry.now c.eq.result c.requires c.place_of.ensures.value
    (ltb-true _ _ (sym c.in_ok-entry.ensures.lookup.0)) c.in_ok-entry.ensures.lookup.1 c.eq.ensures
    ∙ ap (λ b. cond b (Some c.in_ok-entry.entry.now.1) None) c.if-eq.false)
