use Rattle.std.{proofs.Common.{T, ◌∙◌, sym, ap, subst}, specs.{Prelude.{option_map}, FinMap.{find, entries_sorted, is_sorted, get-entries}}}
use Rattle.lab_table.specs.Row.{row_cmp}
use Rattle.lab_history.{specs.VersionName.{state_value}, proofs.NewStates.{new_states_sorted, find_states}}
use Rattle.lab_deps.proofs.lookup.written_near.Goals as goal

pub value_near-found-requires : goal.value_near-found-requires
value_near-found-requires c = subst T (new_states_sorted c.entries-entries.result.now) (subst (λ es. T (is_sorted row_cmp es)) (sym c.entries-entries.ensures) (entries_sorted c.args.op.now.writes))

pub returns : goal.returns
returns c =
    ap (option_map state_value) c.value_near-found.ensures
    ∙ (find_states c.args.row c.entries-entries.result.now ∙ (ap (find row_cmp c.args.row) c.entries-entries.ensures ∙ sym (get-entries c.args.op.now.writes c.args.row)))
