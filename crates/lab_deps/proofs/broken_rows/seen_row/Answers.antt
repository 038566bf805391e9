use Rattle.std.{proofs.{Common.{◌≡◌, rules, true, sym, ap, ◌∙◌, subst}, lemmas.Bool.{false≢true}}}
use Rattle.lab_history.specs.Version.{viewed}
use Rattle.lab_deps.{specs.{Broken.{breaks_at}, FirstOf.{IsLeastRow, first_value}}, proofs.BrokenRows.{seen_least}}
use Rattle.lab_deps.proofs.broken_rows.seen_row.Goals as goal

pub returns-then-step : goal.returns-then-step
returns-then-step c = λ row t. false≢true (sym (c.requires.fine c.if-step.true c.args.kind row) ∙ t)

pub returns : goal.returns
returns c =
    let h = c.args.history.now in
    let s = c.args.step.now in
    subst (IsLeastRow (λ row. breaks_at c.args.kind h s.txn s.number row (viewed s.op.now row) ≡ true))
    (sym (c.first_entry.ensures (breaks_at c.args.kind h s.txn s.number) (λ row seen b post. search rules) ∙ ap (first_value (breaks_at c.args.kind h s.txn s.number)) c.entries.ensures))
    (seen_least h s.txn s.number s.op.now c.args.kind)
