use Rattle.lab_engine.proofs.{Common.{active_after, Agree, ap, asked, Command, cond, keeps_statements, Listed, None, pending_in, Some, subst, sym, ◌∙◌}, SessionStates.{runs_agree}}
use Rattle.lab_engine.proofs.session_state.run_in.Goals as goal

pub returns-in-Some-clause-txn : goal.returns-in-Some-clause-txn
returns-in-Some-clause-txn c level past txn view lists agree had kept =
    subst (λ (k : Command). Agree level (active_after k (Listed view lists c.args.writes.now) past txn) (Some c.run.new.self)) (sym c.in-Run.is)
    (runs_agree level c.in-Run.field-0 past view lists c.args.writes.now txn c.in-Some.running c.run.new.self (subst (λ r. Agree level txn r) c.in-Some.is agree)
    (λ row. pending_in c.args.rows.now row c.args.session) had
    (λ t op running pending statement writes. c.run.ensures.txn level t op running pending
    (c.take.ensures.value ∙ kept ∙ ap (λ (k : Command). cond (keeps_statements level) (asked k) None) c.in-Run.is ∙ ap (λ s. cond (keeps_statements level) (Some s) None) (sym statement)) writes))
