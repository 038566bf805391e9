use Rattle.std.{proofs.Common.{◌∙◌, sym, ap}, specs.FinMap.{entries, entries-from_sorted}}
use Rattle.lab_table.specs.Row.{row_cmp}
use Rattle.lab_history.proofs.transaction.Installed.entries.Goals as goal

pub returns : goal.returns
returns c = c.deref.ensures.value ∙ sym (entries-from_sorted row_cmp c.self.inside.entries.items c.self.invariant) ∙ ap entries c.self.view_is
