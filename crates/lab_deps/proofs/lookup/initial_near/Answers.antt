use Rattle.std.{proofs.Common.{T, sym, ap, ◌∙◌, subst}, specs.FinMap.{find, entries, entries_sorted, is_sorted, get-entries}}
use Rattle.lab_table.specs.Row.{row_cmp}
use Rattle.lab_deps.proofs.lookup.initial_near.Goals as goal

pub value_near-found-requires : goal.value_near-found-requires
value_near-found-requires c = subst (λ es. T (is_sorted row_cmp es)) (sym (c.rows-initial.ensures ∙ ap entries c.initial.ensures)) (entries_sorted c.args.history.now.initial)

pub returns : goal.returns
returns c = c.value_near-found.ensures ∙ ap (find row_cmp c.args.row) (c.rows-initial.ensures ∙ ap entries c.initial.ensures) ∙ sym (get-entries c.args.history.now.initial c.args.row)
