use Rattle.lab_engine.proofs.Gatherings.{is_within, gathers_by}
use Rattle.lab_engine.proofs.gathering.Gathering.take_in.Goals as goal

pub add_event-requires : goal.add_event-requires
add_event-requires c =
    is_within c.requires.0 c.requires.1 c.requires.2 c.args.event.now c.args.self.now c.requires.3 c.requires.4 c.get-by.ensures.low c.get-by.ensures.high c.get-by.result c.get-by.ensures.value

pub returns : goal.returns
returns c = λ level setup past tells legal.
    gathers_by level setup past c.args.event.now c.args.self.now tells legal c.get-by.ensures.low c.get-by.ensures.high c.get-by.result c.get-by.ensures.value _
    c.number_after.result c.number_after.ensures c.set.ensures.each c.in_ok-add_event.ensures
