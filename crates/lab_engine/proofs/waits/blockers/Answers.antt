use Rattle.lab_engine.proofs.{Common.{AreBlockers, subst, sym}, Waiting.{others_block, blockers_all}}
use Rattle.lab_engine.proofs.waits.blockers.Goals as goal

pub returns : goal.returns
returns g c = λ past txn asks.
    let asker = c.args.asker.now in
    subst (AreBlockers g.R.Rules.kind asker.setup.now past asker.session c.args.statement.now) (sym c.new.ensures)
    (blockers_all g.R.Rules.kind asker.setup.now past asker.situation.now asker.session c.args.statement.now c.loop-state.state-index c.blockers-set.result c.loop-state.on.items asks.situation
    c.loop-state-test.false
    (others_block g.R.Rules.kind past c.args.statement.now txn asker c.blockers-set.result asks (c.blockers-set.ensures past txn asks)) c.loop-state.invariant)
