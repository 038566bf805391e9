use Rattle.std.proofs.{Common.{sym, ap, ◌∙◌}, lemmas.List.{drop_all}}
use Rattle.lab_deps.{specs.{Fine.{is_unfine}, FirstOf.{first_value}}, proofs.FineReads.{all_fine}}
use Rattle.lab_deps.proofs.fine.sees_fine.Goals as goal

pub returns-then-again : goal.returns-then-again
returns-then-again c = λ _. c.requires.again c.if-again.true

pub returns : goal.returns
returns c = λ _.
    all_fine c.args.history.now c.args.txn c.args.number c.args.op.now.view
    (sym c.loop-entry.invariant ∙ ap (first_value (is_unfine c.args.history.now c.args.txn c.args.number)) (drop_all c.loop-entry.entry-index c.entries-entries.result.now c.loop-entry-test.false))
