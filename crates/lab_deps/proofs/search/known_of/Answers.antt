use Rattle.std.{proofs.Common.{T, sym, ap, ◌∙◌, subst}, specs.FinMap.{find, entries_sorted, is_sorted, get-entries}}
use Rattle.lab_table.specs.Row.{row_cmp}
use Rattle.lab_deps.proofs.search.known_of.Goals as goal

pub returns-then-fine-clause-sorted : goal.returns-then-fine-clause-sorted
returns-then-fine-clause-sorted c = subst (λ es. T (is_sorted row_cmp es)) (sym c.entries.ensures) (entries_sorted c.args.op.now.view)

pub returns-then-fine-clause-seen : goal.returns-then-fine-clause-seen
returns-then-fine-clause-seen c = λ row v e. (c.if-fine.true, get-entries c.args.op.now.view row ∙ ap (find row_cmp row) (sym c.entries.ensures) ∙ e)
