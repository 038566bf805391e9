use Rattle.std.{proofs.Common.{T, sym, ap, ◌∙◌, subst}, specs.FinMap.{find, entries_sorted, is_sorted, get-entries}}
use Rattle.lab_table.specs.Row.{row_cmp}
use Rattle.lab_deps.proofs.lookup.seen_near.Goals as goal

pub value_near-found-requires : goal.value_near-found-requires
value_near-found-requires c = subst (λ es. T (is_sorted row_cmp es)) (sym c.entries.ensures) (entries_sorted c.args.op.now.view)

pub returns : goal.returns
returns c = c.value_near-found.ensures ∙ (ap (find row_cmp c.args.row) c.entries.ensures ∙ sym (get-entries c.args.op.now.view c.args.row))
