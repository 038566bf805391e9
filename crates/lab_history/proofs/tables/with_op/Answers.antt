use Rattle.std.{proofs.Common.{T, ◌∙◌, sym, ap, subst}, specs.{Prelude.{option_and_then}, FinMap.{entries, entries_sorted, is_sorted}}}
use Rattle.lab_table.specs.Row.{row_cmp}
use Rattle.lab_history.{specs.RunningTables.{rows_within}, proofs.{NewStates.{new_states_sorted}, CountedTables.{states_met}}}
use Rattle.lab_history.proofs.tables.with_op.Goals as goal

pub with_rows-requires : goal.with_rows-requires
with_rows-requires c = subst (λ es. T (is_sorted row_cmp es)) (sym c.entries.ensures) (entries_sorted c.args.op.now.view)

pub with_rows-requires-2 : goal.with_rows-requires-2
with_rows-requires-2 c = subst (λ es. T (is_sorted row_cmp es)) (sym c.entries-2.ensures) (entries_sorted c.args.op.now.rows)

pub with_rows-requires-3 : goal.with_rows-requires-3
with_rows-requires-3 c = subst T (new_states_sorted c.entries-3.result.now) (subst (λ es. T (is_sorted row_cmp es)) (sym c.entries-3.ensures) (entries_sorted c.args.op.now.writes))

pub returns : goal.returns
returns c =
    let op = c.args.op.now in
    let view = c.in_ok-tables-2.ensures ∙ ap (rows_within c.in_ok-tables.tables.names) c.entries.ensures ∙ ap (option_and_then (λ more. rows_within more (entries op.view))) c.in_ok-tables.ensures in
    let rows = c.in_ok-tables-3.ensures ∙ ap (rows_within c.in_ok-tables-2.tables.names) c.entries-2.ensures ∙ ap (option_and_then (λ most. rows_within most (entries op.rows))) view in
    let met = c.in_ok-tables-3.tables.names in
    c.with_rows-3.ensures ∙ states_met met c.entries-3.result.now ∙ ap (rows_within met) c.entries-3.ensures ∙ ap (option_and_then (λ most. rows_within most (entries op.writes))) rows
