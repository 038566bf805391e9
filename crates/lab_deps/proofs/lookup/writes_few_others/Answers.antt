use Rattle.std.{proofs.Common.{◌∙◌, sym, ap}, specs.{Prelude.{is_none}, FinMap.{find, get-entries}}}
use Rattle.lab_table.specs.Row.{row_cmp}
use Rattle.lab_deps.proofs.LastOperations.{none_among}
use Rattle.lab_deps.proofs.lookup.writes_few_others.Goals as goal

pub returns-then-entries-le4 : goal.returns-then-entries-le4
returns-then-entries-le4 c = λ t.
    ap is_none
    (get-entries c.args.op.now.writes c.args.row
    ∙ (ap (find row_cmp c.args.row) (sym c.entries-entries.ensures) ∙ none_among c.args.row c.entries-entries.result.now (sym c.lacks.ensures ∙ t)))
