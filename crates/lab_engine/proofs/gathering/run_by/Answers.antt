use Rattle.lab_engine.proofs.{Common.{op_of, with_ops}, TxnsAfterEvents.{set_by}}
use Rattle.lab_engine.proofs.gathering.run_by.Goals as goal

pub returns-in_ok-run : goal.returns-in_ok-run
returns-in_ok-run c =
    set_by (with_ops (op_of c.args.event.now.command c.args.event.now.outcome)) c.args.txns.now.items c.args.by.now c.in-Some.number c.place_of.result c.run.new.self c.index_mut.result.now
    c.in-Some.is c.place_of.ensures c.index_mut.ensures.value c.requires c.in_ok-run.ensures
