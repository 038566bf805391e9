use Rattle.std.{proofs.Common.{◌∙◌, sym, ap}, specs.FinMap.{get, find, get-from_sorted}}
use Rattle.lab_table.specs.Row.{row_cmp}
use Rattle.lab_table.proofs.by_row.ByRow.get.Goals as goal

pub returns : goal.returns
returns g c =
    c.copied.ensures ∙ c.value_of.ensures ∙ ap (find row_cmp c.args.row) c.deref.ensures.value
    ∙ sym (get-from_sorted row_cmp c.self.inside.entries.items c.args.row c.self.invariant) ∙ ap (λ m. get m c.args.row) c.self.view_is
