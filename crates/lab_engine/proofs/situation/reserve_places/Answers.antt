use Rattle.lab_engine.proofs.{Common.{ap, DescribesSession, HasPlaces, on_ok_weaker, refl, subst, sym, ◌∙◌}, States.{sessions_stay, states_stay, own_put}}
use Rattle.lab_engine.proofs.situation.reserve_places.Goals as goal

pub returns-clause-sessions : goal.returns-clause-sessions
returns-clause-sessions c =
    sessions_stay c.args.states.now c.args.session c.place.result c.index-states-place.result c.requires c.place.ensures.low c.place.ensures.high c.place.ensures.value c.index-states-place.is
    c.reserve.new.self (c.reserve.ensures.session ∙ sym (ap (λ s. s.session) c.index-states-place.is))

pub returns-clause-same : goal.returns-clause-same
returns-clause-same c = λ level past all.
    states_stay c.args.states.now c.args.session c.place.result c.index-states-place.result c.requires c.place.ensures.low c.place.ensures.high c.place.ensures.value c.index-states-place.is
    c.reserve.new.self (c.reserve.ensures.session ∙ sym (ap (λ s. s.session) c.index-states-place.is)) level past
    (λ d. c.reserve.ensures.same level past (subst (λ s. DescribesSession level past s) c.index-states-place.is d)) all

pub returns-clause-places : goal.returns-clause-places
returns-clause-places c =
    on_ok_weaker c.reserve.result (λ p. subst (λ r. HasPlaces c.args.keeps r c.args.writes.now)
    (sym (own_put c.args.states.now c.args.session c.place.result c.index-states-place.result c.requires c.place.ensures.low c.place.ensures.high c.place.ensures.value c.index-states-place.is
    c.reserve.new.self (c.reserve.ensures.session ∙ sym (ap (λ s. s.session) c.index-states-place.is)) (λ s. s.running) c.args.session refl)) p) c.reserve.ensures.places
