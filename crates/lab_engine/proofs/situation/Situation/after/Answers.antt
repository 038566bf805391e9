use Rattle.lab_engine.{specs.declared.event.Level.TheVariants.{Committed as ReadCommitted}, proofs.{Common.{Describes, past_of, refl, subst, sym, take}, Runs.{front_few, front_more}}}
use Rattle.lab_engine.proofs.situation.Situation.after.Goals as goal

pub loop-event-init : goal.loop-event-init
loop-event-init c = c.new-situation.ensures.is ReadCommitted

pub reserve-requires : goal.reserve-requires
reserve-requires c = (ReadCommitted, past_of (take c.loop-event.event-index c.args.log.now), c.loop-event.invariant)

pub take_in-requires-clause-few : goal.take_in-requires-clause-few
take_in-requires-clause-few c =
    let past = past_of (take c.loop-event.event-index c.args.log.now) in
    (ReadCommitted, past, c.reserve.ensures.same ReadCommitted past c.loop-event.invariant, front_few c.args.log.now c.loop-event.event-index c.loop-event-test.true c.requires)

pub loop-event-preserved : goal.loop-event-preserved
loop-event-preserved c =
    let past = past_of (take c.loop-event.event-index c.args.log.now) in
    subst (λ past. Describes ReadCommitted past c.take_in.new.self) (sym (front_more c.args.log.now c.loop-event.event-index c.event-item.result c.loop-event-test.true c.event-item.is))
    (c.take_in.ensures.is ReadCommitted past c.in_ok-kept.ensures.copy (c.reserve.ensures.same ReadCommitted past c.loop-event.invariant))
