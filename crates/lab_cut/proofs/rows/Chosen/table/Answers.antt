use Rattle.std.{proofs.Common.{◌∙◌, ap}, specs.FinMap.{from_sorted, Entries.{where_key}}}
use Rattle.lab_table.specs.Row.{row_cmp}
use Rattle.lab_cut.{specs.Chosen.{has}, proofs.{MadeEntries.{sorted_where}, SameShape.{retained}}}
use Rattle.lab_cut.proofs.rows.Chosen.table.Goals as goal

pub from_rising-requires : goal.from_rising-requires
from_rising-requires c = sorted_where (has c.args.self.now) c.args.table.now c.rows.result.now c.in_ok-left.left.items c.rows.ensures c.in_ok-left.ensures

pub returns : goal.returns
returns c =
    c.from_rising.ensures ∙ ap (λ l. from_sorted {R = row_cmp} l) (c.in_ok-left.ensures ∙ ap (where_key row_cmp (has c.args.self.now)) c.rows.ensures)
    ∙ retained (has c.args.self.now) c.args.table.now
