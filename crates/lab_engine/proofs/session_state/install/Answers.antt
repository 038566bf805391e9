use Rattle.lab_engine.proofs.{Common.{Agree, ap, chain_in, cond, list_any, longer, None, pending_in, row_eq, subst, ◌&&◌, ◌==◌, ◌∙◌}, SessionStates.{all_settled, none_settled, installs_all, installs_none}}
use Rattle.lab_engine.proofs.session_state.install.Goals as goal

pub returns-in-Some-clause-chain : goal.returns-in-Some-clause-chain
returns-in-Some-clause-chain c level txn agree was row =
    c.install_each.ensures.chain row
    ∙ ap (λ rows. cond (list_any (row_eq row) rows) (longer c.in-Some.running.number c.args.before (pending_in c.args.rows.now row c.args.session) (chain_in c.args.rows.now row))
    (chain_in c.args.rows.now row)) c.deref.ensures.value
    ∙ installs_all c.args.rows.now c.args.session level txn c.in-Some.running c.args.before (subst (λ r. Agree level txn r) c.in-Some.is agree) was row

pub returns-in-Some-clause-pending : goal.returns-in-Some-clause-pending
returns-in-Some-clause-pending c level txn agree was row n =
    c.install_each.ensures.pending row n
    ∙ ap (λ rows. cond (list_any (row_eq row) rows && n == c.args.session) None (pending_in c.args.rows.now row n)) c.deref.ensures.value
    ∙ all_settled c.args.rows.now c.args.session level txn c.in-Some.running (subst (λ r. Agree level txn r) c.in-Some.is agree) was row n

pub returns-in_default-clause-chain : goal.returns-in_default-clause-chain
returns-in_default-clause-chain c level txn agree was row = installs_none c.args.rows.now c.args.session level txn c.args.before (subst (λ r. Agree level txn r) c.in_default.is agree) row

pub returns-in_default-clause-pending : goal.returns-in_default-clause-pending
returns-in_default-clause-pending c level txn agree was row n = none_settled c.args.rows.now c.args.session level txn (subst (λ r. Agree level txn r) c.in_default.is agree) was row n
