use Rattle.std.proofs.Common.{◌≡◌, ◌-◌, true, sym, ◌∙◌, subst}
use Rattle.lab_history.specs.Version.{viewed}
use Rattle.lab_deps.{specs.{Broken.{breaks_at, is_broken, misses_own}, FirstOf.{IsLess, IsLeastRow}}, proofs.{FirstOf.{first_like}, BrokenRows.{of_version}}}
use Rattle.lab_deps.proofs.broken_rows.broken_row.Goals as goal

pub returns-in-OwnWriteMissed : goal.returns-in-OwnWriteMissed
returns-in-OwnWriteMissed c =
    let h = c.args.history.now in
    let s = c.args.step.now in
    subst (λ k. IsLeastRow (λ row. is_broken k h s.txn s.number s.op.now row ≡ true) c.missed_row.result) (sym c.in-OwnWriteMissed.is)
    (subst (λ o. IsLeastRow (λ row. misses_own s.txn (s.number - 1) o s.op.now row ≡ true) c.missed_row.result) c.requires.behind c.missed_row.ensures)

pub returns-in-RowsDiffer : goal.returns-in-RowsDiffer
returns-in-RowsDiffer c =
    let s = c.args.step.now in
    subst (λ k. IsLeastRow (λ row. is_broken k c.args.history.now s.txn s.number s.op.now row ≡ true) c.mislisted_row.result) (sym c.in-RowsDiffer.is) c.mislisted_row.ensures

pub returns-in-WritesDiffer : goal.returns-in-WritesDiffer
returns-in-WritesDiffer c =
    let s = c.args.step.now in
    subst (λ k. IsLeastRow (λ row. is_broken k c.args.history.now s.txn s.number s.op.now row ≡ true) c.miswritten_row.result) (sym c.in-WritesDiffer.is) c.miswritten_row.ensures

pub returns-in_default : goal.returns-in_default
returns-in_default c =
    let h = c.args.history.now in
    let s = c.args.step.now in
    let same = of_version h s.txn s.number s.op.now c.args.kind c.in_default.not-OwnWriteMissed c.in_default.not-RowsDiffer c.in_default.not-WritesDiffer in
    first_like IsLess (λ row. breaks_at c.args.kind h s.txn s.number row (viewed s.op.now row) ≡ true) (λ row. is_broken c.args.kind h s.txn s.number s.op.now row ≡ true) c.seen_row.result
    (λ row t. sym (same row) ∙ t) (λ row t no. no (same row ∙ t)) c.seen_row.ensures
