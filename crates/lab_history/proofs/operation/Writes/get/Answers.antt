use Rattle.std.{proofs.Common.{◌∙◌, sym, ap, subst, T}, specs.{Prelude.{option_map}, FinMap.{get, find, is_sorted, get-from_sorted}}}
use Rattle.lab_table.specs.Row.{row_cmp}
use Rattle.lab_history.{specs.VersionName.{new_states, state_value}, proofs.NewStates.{find_states, new_states_sorted}}
use Rattle.lab_history.proofs.operation.Writes.get.Goals as goal

pub value_of-requires : goal.value_of-requires
value_of-requires c = subst T (new_states_sorted c.self.inside.entries.items ∙ ap (is_sorted row_cmp) (sym c.deref.ensures.value)) c.self.invariant

pub returns : goal.returns
returns c =
    ap (option_map state_value) (c.copied.ensures ∙ c.value_of.ensures ∙ ap (find row_cmp c.args.row) c.deref.ensures.value)
    ∙ find_states c.args.row c.self.inside.entries.items
    ∙ sym (get-from_sorted row_cmp (new_states c.self.inside.entries.items) c.args.row c.self.invariant) ∙ ap (λ m. get m c.args.row) c.self.view_is
