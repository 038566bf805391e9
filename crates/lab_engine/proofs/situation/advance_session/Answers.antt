use Rattle.lab_engine.proofs.{Common.{ap, DescribesSession, HasRoom, HoldsOutcome, is_some, refl, subst, sym, ◌∙◌}, EventBounds.{has_room}, States.{described_there, kept_there, sessions_stay, states_go_on}}
use Rattle.lab_engine.proofs.situation.advance_session.Goals as goal

pub take_in-requires-clause-few : goal.take_in-requires-clause-few
take_in-requires-clause-few c =
    subst (λ s. HasRoom s.running) c.index-states-place.is
    (has_room c.requires.few.1 c.index-states-place.result
    (described_there c.args.states.now c.args.event.now.session c.place.result c.index-states-place.result c.requires.sessions c.place.ensures.low c.place.ensures.high c.place.ensures.value c.index-states-place.is
    c.requires.few.0 c.requires.few.1 c.requires.few.2) c.requires.few.3)

pub take_in-requires-clause-room : goal.take_in-requires-clause-room
take_in-requires-clause-room c =
    subst (λ r. HoldsOutcome (is_some c.args.kept.now) c.args.event.now.outcome r c.args.rows.now)
    (kept_there c.args.states.now c.args.event.now.session c.place.result c.index-states-place.result c.requires.sessions c.place.ensures.low c.place.ensures.high c.place.ensures.value c.index-states-place.is
    (λ s. s.running) ∙ ap (λ s. s.running) c.index-states-place.is) c.requires.room

pub returns-clause-sessions : goal.returns-clause-sessions
returns-clause-sessions c =
    sessions_stay c.args.states.now c.args.event.now.session c.place.result c.index-states-place.result c.requires.sessions c.place.ensures.low c.place.ensures.high c.place.ensures.value c.index-states-place.is
    c.take_in.new.self (c.take_in.ensures.session ∙ sym (ap (λ s. s.session) c.index-states-place.is))

pub returns-clause-goes_on : goal.returns-clause-goes_on
returns-clause-goes_on c = λ level past kept at all rows.
    states_go_on c.args.states.now c.args.event.now.session c.place.result c.index-states-place.result c.requires.sessions c.place.ensures.low c.place.ensures.high c.place.ensures.value c.index-states-place.is
    c.take_in.new.self (c.take_in.ensures.session ∙ sym (ap (λ s. s.session) c.index-states-place.is)) level past c.args.event.now refl all
    (λ d own. c.take_in.ensures.goes_on level past kept (own ∙ ap (λ s. s.session) c.index-states-place.is) at (subst (λ s. DescribesSession level past s) c.index-states-place.is d, rows))
