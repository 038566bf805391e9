use Rattle.std.{proofs.Common.{◌≡◌, ◌∙◌, sym, ap, subst, T}, specs.FinMap.{from_sorted, entries, is_sorted, entries_sorted}}
use Rattle.lab_table.specs.{Row.{row_cmp}, Table.{Table}}
use Rattle.lab_cut.{specs.Overlaid.{kept_rows, put_present}, proofs.Overlays.{kept_sorted, overlaid, same_map_again}}
use Rattle.lab_cut.proofs.tables.with_states.Goals as goal

pub from_rising-rows-requires : goal.from_rising-rows-requires
from_rising-rows-requires c =
    subst (λ l. T (is_sorted row_cmp l)) (sym (c.in_ok-kept.ensures ∙ ap (kept_rows c.args.states.now) c.rows.ensures)) (kept_sorted c.args.states.now (entries c.args.table.now) (entries_sorted c.args.table.now))

pub from_rising-requires : goal.from_rising-requires
from_rising-requires c = subst (λ l. T (is_sorted row_cmp l)) (sym c.take.ensures.entries) (entries_sorted c.put_present.new.rows)

pub returns : goal.returns
returns c =
    let states = c.args.states.now in
    let table = c.args.table.now in
    let kept = c.from_rising-rows.ensures ∙ ap (λ l. from_sorted {R = row_cmp} l) (c.in_ok-kept.ensures ∙ ap (kept_rows states) c.rows.ensures) in
    let put : c.put_present.new.rows ≡ put_present (from_sorted (kept_rows states (entries table))) (entries states) =
    c.in_ok-put_present.ensures ∙ ap (put_present c.from_rising-rows.result) c.entries.ensures ∙ ap (λ (m : Table). put_present m (entries states)) kept in
    c.from_rising.ensures ∙ ap (λ l. from_sorted {R = row_cmp} l) c.take.ensures.entries ∙ same_map_again c.put_present.new.rows ∙ put ∙ overlaid states table
