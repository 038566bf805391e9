use Rattle.std.{proofs.Common.{◌≡◌, T, None, sym, subst, arith}, specs.{Prelude.{slice_index_or}, FinMap.{find, entries_sorted, is_sorted}}}
use Rattle.lab_table.specs.Row.{row_cmp}
use Rattle.lab_deps.proofs.LookedSpans.{unlooked_row}
use Rattle.lab_deps.proofs.relevant_rows.span_looked_at.Goals as goal

pub returns-clause-before : goal.returns-clause-before
returns-clause-before g c = λ k d low below.
    let row = (slice_index_or c.args.entries.now k d).0 in
    unlooked_row c.args.op.now row (c.span_of-span.ensures.before k d (omega (arith, low, c.from_listed.ensures.order)))
    (subst (λ ls. find row_cmp row ls ≡ None) c.entries-listed.ensures (c.from_listed.ensures.none k d low below))

pub returns-clause-behind : goal.returns-clause-behind
returns-clause-behind g c = λ k d at below.
    let row = (slice_index_or c.args.entries.now k d).0 in
    unlooked_row c.args.op.now row (c.span_of-span.ensures.beyond k d (omega (arith, at, c.to_listed.ensures.order)) below)
    (subst (λ ls. find row_cmp row ls ≡ None) c.entries-listed.ensures (c.to_listed.ensures.none k d at below))

pub from_listed-requires-clause-listed : goal.from_listed-requires-clause-listed
from_listed-requires-clause-listed g c = subst (λ es. T (is_sorted row_cmp es)) (sym c.entries-listed.ensures) (entries_sorted c.args.op.now.rows)

pub to_listed-requires-clause-listed : goal.to_listed-requires-clause-listed
to_listed-requires-clause-listed g c = subst (λ es. T (is_sorted row_cmp es)) (sym c.entries-listed.ensures) (entries_sorted c.args.op.now.rows)
