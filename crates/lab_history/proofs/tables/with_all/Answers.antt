use Rattle.std.{proofs.Common.{T, sym, subst}, specs.FinMap.{entries_sorted, is_sorted}}
use Rattle.lab_table.specs.Row.{row_cmp}
use Rattle.lab_history.proofs.tables.with_all.Goals as goal

pub with_rows-requires : goal.with_rows-requires
with_rows-requires c = subst (λ es. T (is_sorted row_cmp es)) (sym c.rows.ensures) (entries_sorted c.args.parts.now.initial)

pub with_rows-requires-2 : goal.with_rows-requires-2
with_rows-requires-2 c = subst (λ es. T (is_sorted row_cmp es)) (sym c.entries.ensures) (entries_sorted c.args.parts.now.installed)

pub with_rows-requires-3 : goal.with_rows-requires-3
with_rows-requires-3 c = subst (λ es. T (is_sorted row_cmp es)) (sym c.rows-2.ensures) (entries_sorted c.args.parts.now.end_table)
