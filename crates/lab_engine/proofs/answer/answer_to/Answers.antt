use Rattle.lab_engine.proofs.{Common.{active, Agree, Answers, ap, AreWaits, asked, conflict_fault, IfOk, MayAsk, MayCommit, refl, Refused, Run, Situation, subst, sym}, Describing.{running_txn, kept_none}, Answering.{gives, may_ask, conflict_none, conflict_some, ran}}
use Rattle.lab_engine.proofs.answer.answer_to.Goals as goal

pub returns-in_default-clause-answer : goal.returns-in_default-clause-answer
returns-in_default-clause-answer g c past d may h = c.without_transaction.ensures _ _ past d
    (kept_none _ _ (subst (Agree g.R.Rules.kind (active past c.args.session)) (sym c.in_default.ensures) (d.states c.args.session).running))

pub returns-in-Begin-clause-answer : goal.returns-in-Begin-clause-answer
returns-in-Begin-clause-answer g c past d may h = let t = running_txn past c.in-Some.running.now (d.states c.args.session) (sym c.in-Some.ensures) in
    ((t.0, gives _ _ _ _ t.0 c.in-Begin.is refl may t.1), (λ eq. cc), λ s run circle eq. cc)

pub returns-in-Abort-clause-answer : goal.returns-in-Abort-clause-answer
returns-in-Abort-clause-answer g c past d may h = let t = running_txn past c.in-Some.running.now (d.states c.args.session) (sym c.in-Some.ensures) in
    ((t.0, gives _ _ _ _ t.0 c.in-Abort.is refl may t.1), (λ eq. cc), λ s run circle eq. cc)

pub returns-in-None-clause-answer : goal.returns-in-None-clause-answer
returns-in-None-clause-answer g c past d may h = let t = running_txn past c.in-Some.running.now (d.states c.args.session) (sym c.in-Some.ensures) in (
  (
    t.0,
    gives _ _ _ _ t.0 c.in-Commit.is refl may t.1,
    subst (λ table. MayCommit g.R.Rules.kind table past t.0) c.of-asker.ensures.setup (conflict_none _ _ past t.0 _ c.in-None.is (c.conflict.ensures past t.0 (c.of-asker.ensures.is past t.0 d t.1 t.2))),
  ),
  (λ eq. cc),
  λ s run circle eq. cc,
)

pub returns-in-Some-conflict-clause-answer : goal.returns-in-Some-conflict-clause-answer
returns-in-Some-conflict-clause-answer g c past d may h = let t = running_txn past c.in-Some.running.now (d.states c.args.session) (sym c.in-Some.ensures) in
    let asker = c.of-asker.result in
    subst (λ fault. Answers g.R.Rules.kind c.args.setup.now past c.args.session c.args.command.now (Refused fault)) (sym c.fault_of.ensures)
    (subst (λ table. Answers g.R.Rules.kind table past c.args.session c.args.command.now (Refused (conflict_fault c.in-Some-conflict.conflict.kind c.in-Some-conflict.conflict.row c.in-Some-conflict.conflict.by)))
    c.of-asker.ensures.setup
    (conflict_some _ asker.setup.now past t.0 _ c.args.session _ c.in-Some-conflict.conflict c.in-Some-conflict.is (c.conflict.ensures past t.0 (c.of-asker.ensures.is past t.0 d t.1 t.2))
    (gives _ _ _ _ t.0 c.in-Commit.is refl may t.1)))

pub returns-in-Run-clause-answer : goal.returns-in-Run-clause-answer
returns-in-Run-clause-answer g c past d may h = let t = running_txn past c.in-Some.running.now (d.states c.args.session) (sym c.in-Some.ensures) in
    let asker = c.of-asker.result in
    let s = c.in-Run.statement in
    let waits = subst (λ table. AreWaits g.R.Rules.kind table past asker.situation.now.waits) (sym c.of-asker.ensures.setup)
    (subst (λ (k : Situation). AreWaits g.R.Rules.kind c.args.setup.now past k.waits) (sym c.of-asker.ensures.situation) h) in
    ran g.R.Rules.kind c.args.setup.now past c.args.session _ _ _ c.in-Run.is
    (subst (λ session. MayAsk past session s → IfOk c.run_statement.result (Answers g.R.Rules.kind c.args.setup.now past session (Run s))) c.of-asker.ensures.session
    (subst (λ table. MayAsk past asker.session s → IfOk c.run_statement.result (Answers g.R.Rules.kind table past asker.session (Run s))) c.of-asker.ensures.setup
    (c.run_statement.ensures past t.0 (c.of-asker.ensures.is past t.0 d t.1 t.2) waits)) (may_ask past c.args.session _ _ (ap asked c.in-Run.is) may))
