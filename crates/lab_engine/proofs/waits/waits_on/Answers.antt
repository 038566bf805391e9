use Rattle.lab_engine.proofs.{Common.{BlockedBy, has, IsTrue, subst, sym, ◌↔◌, ◌∙◌}, Describing.{running_txn}, Waiting.{others_block, waits_on_blocking}}
use Rattle.lab_engine.proofs.waits.waits_on.Goals as goal

pub returns : goal.returns
returns g c = λ past d described.
    let txn = running_txn past c.in-Some-running.running described c.in-Some-running.is in
    let asks = c.of-asker.ensures.is past txn.0 d txn.1 txn.2 in
    let set = c.blockers.result in
    let s = c.in-Some.statement in
    waits_on_blocking g.R.Rules.kind c.args.setup.now past c.args.state.now.session s set (sym described.waits ∙ c.in-Some.is) (λ other.
    subst (λ table. IsTrue (has set other) ↔ BlockedBy g.R.Rules.kind table past c.args.state.now.session s other) c.of-asker.ensures.setup
    (subst (λ session. IsTrue (has set other) ↔ BlockedBy g.R.Rules.kind c.of-asker.result.setup.now past session s other) c.of-asker.ensures.session
    (others_block g.R.Rules.kind past s txn.0 c.of-asker.result set asks (c.blockers.ensures past txn.0 asks) other)))
