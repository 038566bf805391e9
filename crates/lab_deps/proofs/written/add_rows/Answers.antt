use Rattle.std.proofs.{Common.{◌++◌, ◌∙◌, sym, ap}, lemmas.List.{append-nil, drop_all}}
use Rattle.lab_deps.{specs.Meetings.{named_in}, proofs.WrittenRows.{named_states}}
use Rattle.lab_deps.proofs.written.add_rows.Goals as goal

pub returns : goal.returns
returns c =
    let entries = c.entries-entries.result.now in
    sym (append-nil c.loop-row.rows.items)
    ∙ ap (λ es. c.loop-row.rows.items ++ named_in es) (sym (drop_all c.loop-row.row-index entries c.loop-row-test.false))
    ∙ c.loop-row.invariant
    ∙ ap (λ rows. c.args.rows.now.items ++ rows) (sym (named_states entries) ∙ ap named_in c.entries-entries.ensures)
