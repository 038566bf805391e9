use Rattle.std.{proofs.Common.{T, ◌≡◌, ◌∙◌, ap, subst, sym}, specs.FinMap.{from_sorted, is_sorted}}
use Rattle.std.specs.FinMap as map
use Rattle.lab_table.specs.Row.{row_cmp}
use Rattle.lab_commands.proofs.PutInTurn.{of_its_entries}
use Rattle.lab_commands.proofs.standing.by_row.Goals as goal

pub from_rising-requires : goal.from_rising-requires
from_rising-requires c =
    let copied : c.in_ok-entries.entries.items ≡ map.entries c.args.table.now = c.in_ok-entries.ensures.items ∙ c.rows.ensures in
    subst (λ l. T (is_sorted row_cmp l)) (sym copied) (map.entries_sorted c.args.table.now)

pub returns : goal.returns
returns c =
    let copied : c.in_ok-entries.entries.items ≡ map.entries c.args.table.now = c.in_ok-entries.ensures.items ∙ c.rows.ensures in
    c.from_rising.ensures ∙ ap (λ l. from_sorted {R = row_cmp} l) copied ∙ of_its_entries c.args.table.now
