use Rattle.std.{proofs.{Common.{◌∙◌, ap, sym, Some, None, cond}, lemmas.Bool.{ltb-true, ltb-false}}, specs.{Prelude.{option_map}, Option.{option_copied}}}
use Rattle.lab_table.{specs.Row.{numbered}, proofs.{Maps.{tested_same}, Searching.{found_nothing, found_entry}}}
use Rattle.lab_table.proofs.by_row.entry_numbered.Goals as goal

pub returns-in_err-entry : goal.returns-in_err-entry
returns-in_err-entry g c =
    let row = numbered c.args.table c.args.number in
    ap option_copied c.from_residual.ensures
    ∙ sym (ap (option_map (λ value. (row, value)))
    (found_nothing row c.args.entries.now c.place_numbered.result c.requires c.place_numbered.ensures.value (ltb-false _ _ (sym c.in_err-entry.ensures.lookup.0))))

pub returns-then-is_numbered : goal.returns-then-is_numbered
returns-then-is_numbered g c =
    let row = numbered c.args.table c.args.number in
    ap (λ r. Some (r, c.in_ok-entry.entry.now.1)) (sym (tested_same row c.in_ok-entry.entry.now.0 (sym c.is_numbered.ensures ∙ c.if-is_numbered.true)))
    ∙ sym (ap (option_map (λ value. (row, value)))
    (found_entry row c.args.entries.now c.place_numbered.result c.in_ok-entry.entry.now c.is_numbered.result c.requires c.place_numbered.ensures.value
    (ltb-true _ _ (sym c.in_ok-entry.ensures.lookup.0)) c.in_ok-entry.ensures.lookup.1 c.is_numbered.ensures
    ∙ ap (λ b. cond b (Some c.in_ok-entry.entry.now.1) None) c.if-is_numbered.true))

pub returns-else-is_numbered : goal.returns-else-is_numbered
returns-else-is_numbered g c =
    let row = numbered c.args.table c.args.number in
    sym (ap (option_map (λ value. (row, value)))
    (found_entry row c.args.entries.now c.place_numbered.result c.in_ok-entry.entry.now c.is_numbered.result c.requires c.place_numbered.ensures.value
    (ltb-true _ _ (sym c.in_ok-entry.ensures.lookup.0)) c.in_ok-entry.ensures.lookup.1 c.is_numbered.ensures
    ∙ ap (λ b. cond b (Some c.in_ok-entry.entry.now.1) None) c.if-is_numbered.false))
