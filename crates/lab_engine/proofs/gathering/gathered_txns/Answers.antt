use Rattle.lab_engine.proofs.{Common.{ap, Gathers, map, past_of, recorded, subst, sym, take}, Runs.{front_legal, front_more}}
use Rattle.lab_engine.proofs.gathering.gathered_txns.Goals as goal

pub loop-event-init : goal.loop-event-init
loop-event-init c = record { active = c.all.ensures.each; txns = ap (map recorded) c.new.ensures.items }

pub take_in-requires : goal.take_in-requires
take_in-requires c = (
  c.requires.0,
  c.requires.1,
  past_of (take c.loop-event.event-index c.args.log.now),
  c.loop-event.invariant,
  front_legal c.requires.0 c.requires.1 c.args.log.now c.loop-event.event-index c.event-item.result c.requires.2 c.loop-event-test.true c.event-item.is,
)

pub loop-event-preserved : goal.loop-event-preserved
loop-event-preserved c =
    subst (λ past. Gathers past c.take_in.new.self) (sym (front_more c.args.log.now c.loop-event.event-index c.event-item.result c.loop-event-test.true c.event-item.is))
    (c.in_ok-take_in.ensures c.requires.0 c.requires.1 (past_of (take c.loop-event.event-index c.args.log.now)) c.loop-event.invariant
    (front_legal c.requires.0 c.requires.1 c.args.log.now c.loop-event.event-index c.event-item.result c.requires.2 c.loop-event-test.true c.event-item.is))
