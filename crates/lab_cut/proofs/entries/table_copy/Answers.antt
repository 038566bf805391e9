use Rattle.std.{proofs.Common.{◌∙◌, sym, ap, subst, T}, specs.FinMap.{from_sorted, is_sorted, entries_sorted}}
use Rattle.lab_table.specs.Row.{row_cmp}
use Rattle.lab_cut.proofs.Overlays.{same_map_again}
use Rattle.lab_cut.proofs.entries.table_copy.Goals as goal

pub from_rising-requires : goal.from_rising-requires
from_rising-requires c = subst (λ l. T (is_sorted row_cmp l)) (sym (c.in_ok-rows.ensures.items ∙ c.rows.ensures)) (entries_sorted c.args.table.now)

pub returns : goal.returns
returns c = c.from_rising.ensures ∙ ap (λ l. from_sorted {R = row_cmp} l) (c.in_ok-rows.ensures.items ∙ c.rows.ensures) ∙ same_map_again c.args.table.now
