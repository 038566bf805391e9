use Rattle.std.proofs.{Common.{◌++◌, ◌∙◌, sym, ap}, lemmas.List.{append-nil, drop_all}}
use Rattle.lab_history.{specs.Index.{written_by}, proofs.LastWrites.{written_states}}
use Rattle.lab_history.proofs.index.add_writes.Goals as goal

pub returns : goal.returns
returns c =
    let entries = c.entries-entries.result.now in
    sym (append-nil c.loop-row.writes.items)
    ∙ ap (λ es. c.loop-row.writes.items ++ written_by c.args.txn c.args.op es) (sym (drop_all c.loop-row.row-index entries c.loop-row-test.false))
    ∙ c.loop-row.invariant
    ∙ ap (λ ws. c.args.writes.now.items ++ ws) (sym (written_states c.args.txn c.args.op entries) ∙ ap (written_by c.args.txn c.args.op) c.entries-entries.ensures)
