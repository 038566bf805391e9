use Rattle.lab_engine.{specs.Gathered.{committed}, proofs.TxnsAfterEvents.{set_by}}
use Rattle.lab_engine.proofs.gathering.commit_by.Goals as goal

pub returns-in-Some : goal.returns-in-Some
returns-in-Some c =
    set_by committed c.args.txns.now.items c.args.by.now c.in-Some.number c.place_of.result c.commit.new.self c.index_mut.result.now c.in-Some.is c.place_of.ensures c.index_mut.ensures.value
    c.requires c.commit.ensures
