use Rattle.lab_engine.proofs.{Common.{arith, refl}, Describing.{goes_on}, EventBounds.{begun_at_most}}
use Rattle.lab_engine.proofs.situation.Situation.take_in.Goals as goal

pub advance_session-requires-clause-sessions : goal.advance_session-requires-clause-sessions
advance_session-requires-clause-sessions c = c.requires.few.2.sessions

pub advance_session-requires-clause-few : goal.advance_session-requires-clause-few
advance_session-requires-clause-few c = (c.requires.few.0, c.requires.few.1, c.requires.few.2.states, c.requires.few.3)

pub begun_next-self-requires : goal.begun_next-self-requires
begun_next-self-requires c = omega (arith, c.requires.few.3, begun_at_most c.requires.few.1, c.requires.few.2.begun)

pub returns-clause-is : goal.returns-clause-is
returns-clause-is c = λ level past kept is.
    let next = c.advance_session.ensures.goes_on level past kept is.events is.states is.rows in
    goes_on past c.args.event.now c.args.self.now _ is c.advance_session.ensures.session c.advance_session.ensures.sessions next.0 next.1 c.begun_next-self.ensures refl
