use Rattle.std.{proofs.Common.{◌≡◌, T, None, Some, refl, sym, ap, ◌∙◌, subst}, specs.{Prelude.{option_map}, Bool.{then_some}, FinMap.{get, find, entries, entries_sorted, is_sorted, get-entries}}}
use Rattle.lab_table.specs.Row.{row_cmp, numbered}
use Rattle.lab_deps.{specs.{FirstOf.{IsLeastRow}}, proofs.NamedIds.{entry_of, With, none_with, without_entry, with_entry}}
use Rattle.lab_deps.proofs.unlisted.unlisted_numbered.Goals as goal

pub entry_within-requires : goal.entry_within-requires
entry_within-requires c = subst (λ es. T (is_sorted row_cmp es)) (sym (c.rows.ensures ∙ ap entries c.initial.ensures)) (entries_sorted c.args.history.now.initial)

pub returns-in_err-id : goal.returns-in_err-id
returns-in_err-id c =
    subst (IsLeastRow (With c.args.history.now c.args.op.now c.args.number)) (sym c.from_residual.ensures) (none_with c.args.history.now c.args.op.now c.args.number (c.in_err-id.ensures.none refl))

pub returns-in_err-entry : goal.returns-in_err-entry
returns-in_err-entry c =
    let h = c.args.history.now in
    let op = c.args.op.now in
    let row = numbered op.statement.table c.in_ok-id.id in
    let none : None ≡ option_map (entry_of op c.in_ok-id.id) (get h.initial row) =
    c.in_err-entry.ensures ∙ ap (λ es. option_map (entry_of op c.in_ok-id.id) (find row_cmp row es)) (c.rows.ensures ∙ ap entries c.initial.ensures) ∙ ap (option_map (entry_of op c.in_ok-id.id)) (sym (get-entries h.initial row)) in
    subst (IsLeastRow (With h op c.args.number)) (sym c.from_residual-in_err-entry.ensures) (without_entry h op c.args.number c.in_ok-id.id c.in_ok-id.ensures.some none)

pub returns : goal.returns
returns c =
    let h = c.args.history.now in
    let op = c.args.op.now in
    let e = c.in_ok-entry.entry.now in
    let row = numbered op.statement.table c.in_ok-id.id in
    let some : Some e ≡ option_map (entry_of op c.in_ok-id.id) (get h.initial row) =
    c.in_ok-entry.ensures ∙ ap (λ es. option_map (entry_of op c.in_ok-id.id) (find row_cmp row es)) (c.rows.ensures ∙ ap entries c.initial.ensures) ∙ ap (option_map (entry_of op c.in_ok-id.id)) (sym (get-entries h.initial row)) in
    subst (IsLeastRow (With h op c.args.number)) (sym (c.then_some.ensures ∙ ap (λ b. then_some b e.0) c.is_unlisted.ensures)) (with_entry h op c.args.number c.in_ok-id.id c.in_ok-id.ensures.some (Some e) some e refl)
