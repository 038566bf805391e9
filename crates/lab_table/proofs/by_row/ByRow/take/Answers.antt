use Rattle.std.{proofs.Common.{◌∙◌, sym, ap}, specs.FinMap.{entries, entries-from_sorted}}
use Rattle.lab_table.{specs.Row.{row_cmp}, proofs.Putting.{no_entry}}
use Rattle.lab_table.proofs.by_row.ByRow.take.Goals as goal

pub returns-clause-entries : goal.returns-clause-entries
returns-clause-entries g c =
    ap (λ v. v.items) c.replace.ensures.value ∙ sym (entries-from_sorted row_cmp c.self.inside.entries.items c.self.invariant) ∙ ap entries c.self.view_is

pub returns-clause-left : goal.returns-clause-left
returns-clause-left g c = no_entry c.replace.new.dest.items (ap (λ v. v.items) c.replace.ensures.after ∙ c.new.ensures.items)
