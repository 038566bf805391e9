use Rattle.std.{proofs.Common.{◌∙◌, sym}, specs.FinMap.{entries}}
use Rattle.lab_compare.{specs.Alike.{same_entries}, proofs.CommonWrites.{one_table}}
use Rattle.lab_compare.proofs.shared.begin_same.Goals as goal

pub returns : goal.returns
returns c = λ test.
    one_table c.args.one.now.commits.first c.args.other.now.commits.first
    (sym (c.are_same.ensures ∙ (λ i. same_entries (c.entries.ensures i) (c.entries-2.ensures i))) ∙ test)
