use Rattle.lab_engine.proofs.{Common.{Agree, ap, cond, list_any, None, pending_in, row_eq, subst, ◌&&◌, ◌==◌, ◌∙◌}, SessionStates.{all_settled, none_settled}}
use Rattle.lab_engine.proofs.session_state.give_up.Goals as goal

pub returns-in-Some-clause-pending : goal.returns-in-Some-clause-pending
returns-in-Some-clause-pending c level txn agree was row n =
    c.give_up_each.ensures.pending row n
    ∙ ap (λ rows. cond (list_any (row_eq row) rows && n == c.args.session) None (pending_in c.args.rows.now row n)) c.deref.ensures.value
    ∙ all_settled c.args.rows.now c.args.session level txn c.in-Some.running (subst (λ r. Agree level txn r) c.in-Some.is agree) was row n

pub returns-in_default-clause-pending : goal.returns-in_default-clause-pending
returns-in_default-clause-pending c level txn agree was row n = none_settled c.args.rows.now c.args.session level txn (subst (λ r. Agree level txn r) c.in_default.is agree) was row n
