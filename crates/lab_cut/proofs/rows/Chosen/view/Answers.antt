use Rattle.std.{proofs.Common.{◌∙◌, ap}, specs.FinMap.{from_sorted, Entries.{where_key}}}
use Rattle.lab_table.specs.Row.{row_cmp}
use Rattle.lab_cut.{specs.Chosen.{has}, proofs.{MadeEntries.{sorted_where}, SameShape.{retained}}}
use Rattle.lab_cut.proofs.rows.Chosen.view.Goals as goal

pub new-requires : goal.new-requires
new-requires c = sorted_where (has c.args.self.now) c.args.view.now c.entries.result.now c.in_ok-left.left.items c.entries.ensures c.in_ok-left.ensures

pub returns : goal.returns
returns c =
    c.new.ensures ∙ ap (λ l. from_sorted {R = row_cmp} l) (c.in_ok-left.ensures ∙ ap (where_key row_cmp (has c.args.self.now)) c.entries.ensures)
    ∙ retained (has c.args.self.now) c.args.view.now
