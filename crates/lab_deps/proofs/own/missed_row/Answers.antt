use Rattle.std.{proofs.{Common.{◌≡◌, ◌-◌, true, None, rules, sym, ap, ◌∙◌, subst}, lemmas.Bool.{false≢true}}, specs.{Option.{option_copied}, FinMap.{entries}}}
use Rattle.lab_deps.{specs.{Broken.{is_missed, misses_own}, FirstOf.{IsLeastRow, first_entry, least}}, proofs.MissedRows.{missed_least, none_again}}
use Rattle.lab_deps.proofs.own.missed_row.Goals as goal

pub returns-in_err-before : goal.returns-in_err-before
returns-in_err-before c =
    let s = c.args.step.now in
    subst (IsLeastRow (λ row. misses_own s.txn (s.number - 1) (option_copied s.before) s.op.now row ≡ true)) (sym c.from_residual.ensures)
    (subst (λ o. IsLeastRow (λ row. misses_own s.txn (s.number - 1) (option_copied o) s.op.now row ≡ true) None) (sym c.in_err-before.was) (λ row t. false≢true t))

pub returns-in-Some : goal.returns-in-Some
returns-in-Some c =
    let s = c.args.step.now in
    let before = c.in_ok-before.before.now in
    let test = is_missed s.txn (s.number - 1) before s.op.now in
    let seen : c.first_row.result ≡ first_entry test (entries before.view) = c.first_row.ensures test (λ row b post. search rules) ∙ ap (first_entry test) c.entries.ensures in
    let written : c.first_written.result ≡ first_entry test (entries before.writes) = c.first_written.ensures test (λ row b post. search rules) in
    let same : c.least.result ≡ least (first_entry test (entries before.writes)) (first_entry test (entries before.view)) =
    c.least.ensures ∙ ap (λ o. least o c.first_row.result) (sym c.in-Some.is ∙ written) ∙ ap (least (first_entry test (entries before.writes))) seen in
    subst (λ o. IsLeastRow (λ row. misses_own s.txn (s.number - 1) (option_copied o) s.op.now row ≡ true) c.least.result) (sym c.in_ok-before.was)
    (subst (IsLeastRow (λ row. test row ≡ true)) (sym same) (missed_least s.txn (s.number - 1) before s.op.now))

pub returns-then-step : goal.returns-then-step
returns-then-step c =
    let s = c.args.step.now in
    let before = c.in_ok-before.before.now in
    let test = is_missed s.txn (s.number - 1) before s.op.now in
    subst (λ o. IsLeastRow (λ row. misses_own s.txn (s.number - 1) (option_copied o) s.op.now row ≡ true) None) (sym c.in_ok-before.was)
    (none_again s.txn (s.number - 1) before s.op.now (sym (c.first_written.ensures test (λ row b post. search rules)) ∙ c.in-None.is) (c.requires.same c.if-step.true before (ap option_copied c.in_ok-before.was)))

pub missed_of_view-requires : goal.missed_of_view-requires
missed_of_view-requires c =
    let s = c.args.step.now in
    sym (c.first_written.ensures (is_missed s.txn (s.number - 1) c.in_ok-before.before.now s.op.now) (λ row b post. search rules)) ∙ c.in-None.is

pub returns-else-step : goal.returns-else-step
returns-else-step c =
    let s = c.args.step.now in
    subst (λ o. IsLeastRow (λ row. misses_own s.txn (s.number - 1) (option_copied o) s.op.now row ≡ true) c.missed_of_view.result) (sym c.in_ok-before.was) c.missed_of_view.ensures
