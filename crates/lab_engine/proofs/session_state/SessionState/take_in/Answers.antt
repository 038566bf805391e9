use Rattle.lab_engine.proofs.{Common.{Agree, ap, keeps_statements, kept_of, None, Outcome, refl, Row, subst, sym, ◌∙◌}, SessionStates.{abandons, follows}}
use Rattle.lab_engine.proofs.session_state.SessionState.take_in.Goals as goal

pub returns-in-Begun-clause-goes_on : goal.returns-in-Begun-clause-goes_on
returns-in-Begun-clause-goes_on c level past kept own at is =
    follows past c.args.event.now c.args.self.now c.args.rows.now c.args.before own at is _ _ _ _ c.in-Begun.is
    (refl, c.begin.ensures level past at, c.give_up.ensures.chain, c.give_up.ensures.pending level _ is.0.running (λ row. is.1.pending row c.args.self.now.session))

pub returns-in-Rows-clause-goes_on : goal.returns-in-Rows-clause-goes_on
returns-in-Rows-clause-goes_on c level past kept own at is =
    let had = λ (row : Row). is.1.pending row c.args.self.now.session in
    let copied = kept ∙ ap (λ (o : Outcome). kept_of (keeps_statements level) c.args.event.now.command o) c.in-Rows.is in
    let ran = c.run_in.ensures in
    follows past c.args.event.now c.args.self.now c.args.rows.now c.args.before own at is _ _ _ _ c.in-Rows.is
    (refl, ran.txn level past _ c.in-Rows.view c.in-Rows.rows is.0.running had copied, ran.chain, ran.pending level past _ c.in-Rows.view c.in-Rows.rows is.0.running had)

pub returns-in-Committed-clause-goes_on : goal.returns-in-Committed-clause-goes_on
returns-in-Committed-clause-goes_on c level past kept own at is =
    let had = λ (row : Row). is.1.pending row c.args.self.now.session in
    follows past c.args.event.now c.args.self.now c.args.rows.now c.args.before own at is _ _ _ _ c.in-Committed.is
    (refl, tt, c.install.ensures.chain level _ is.0.running had, c.install.ensures.pending level _ is.0.running had)

pub returns-then-is_over-clause-goes_on : goal.returns-then-is_over-clause-goes_on
returns-then-is_over-clause-goes_on c level past kept own at is =
    let given_up = c.give_up-then-is_over in
    follows past c.args.event.now c.args.self.now c.args.rows.now c.args.before own at is _ _ _ _ refl
    (abandons past c.args.event.now c.args.self.now c.args.rows.now c.args.before own at is given_up.new.rows c.args.event.now.outcome (sym c.is_over.ensures ∙ c.if-is_over.true)
    c.in_default.not-Committed given_up.ensures.chain (given_up.ensures.pending level _ is.0.running (λ row. is.1.pending row c.args.self.now.session)))
