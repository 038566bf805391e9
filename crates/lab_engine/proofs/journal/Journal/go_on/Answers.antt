use Rattle.lab_engine.proofs.{Common.{ap, AreWaits, arith, EngineRun, HasPlacesOfEnds, Keeps, kept_of, length, length-reverse, List, LogEvent, Past, past_of, Permitted, refl, reverse-append, Situation, subst, sym, vec_capacity, [], ◌<◌, ◌∙◌, ◌∷◌, ◌≡◌}, Describing.{same_log}}
use Rattle.lab_engine.proofs.journal.Journal.go_on.Goals as goal

pub invariant_of-self : goal.invariant_of-self
invariant_of-self g c =
    subst (λ (log : List LogEvent). Keeps g.R.Rules.kind c.self.inside.setup (past_of log) c.self.inside.retryable c.self.inside.situation (vec_capacity c.reserve_place.new.log)) (sym c.reserve_place.ensures.log)
    (record {
      legal = c.self.invariant.legal;
      retryable = c.self.invariant.retryable;
      situation = c.self.invariant.situation;
      waits = c.self.invariant.waits;
      places_of_ends = c.reserve_place.ensures.places;
    })

pub reserve-requires : goal.reserve-requires
reserve-requires g c = (g.R.Rules.kind, past_of c.self.inside.log.items, c.self.invariant.situation)

pub invariant_of-self-in_err-kept : goal.invariant_of-self-in_err-kept
invariant_of-self-in_err-kept g c =
    let past : Past = past_of c.self.inside.log.items in
    subst (λ (log : List LogEvent). Keeps g.R.Rules.kind c.self.inside.setup (past_of log) c.self.inside.retryable c.reserve.new.self (vec_capacity c.reserve_place.new.log))
    (sym c.reserve_place.ensures.log)
    (record {
      legal = c.self.invariant.legal;
      retryable = c.self.invariant.retryable;
      situation = c.reserve.ensures.same g.R.Rules.kind past c.self.invariant.situation;
      waits = subst (AreWaits g.R.Rules.kind c.self.inside.setup past) (sym c.reserve.ensures.waits) c.self.invariant.waits;
      places_of_ends = c.reserve_place.ensures.places;
    })

pub take_in-requires-clause-few : goal.take_in-requires-clause-few
take_in-requires-clause-few g c =
    let few : length c.self.inside.log.items < 100000 = subst (λ (k : EngineRun). length k.log < 100000) (sym c.self.view_is) c.requires.few in (
      _,
      _,
      c.reserve.ensures.same _ _ c.self.invariant.situation,
      omega (arith, length-reverse c.self.inside.log.items, few),
    )

pub invariant_of-self-2 : goal.invariant_of-self-2
invariant_of-self-2 g c =
    let past : Past = past_of c.self.inside.log.items in
    let event : LogEvent = c.args.event in
    let longer : past_of c.push_reserved.new.self.items ≡ event ∷ past =
    ap past_of c.push_reserved.ensures.items ∙ reverse-append c.reserve_place.new.log.items (event ∷ []) ∙ ap (λ log. event ∷ past_of log) c.reserve_place.ensures.log in
    let describes = c.take_in.ensures.is g.R.Rules.kind past (c.in_ok-kept.ensures.copy ∙ ap (λ b. kept_of b event.command event.outcome) c.keeps_statements.ensures)
    (c.reserve.ensures.same g.R.Rules.kind past c.self.invariant.situation) in
    let permitted = subst (λ (k : EngineRun). Permitted g.R.Rules.kind k.setup (past_of k.log) event.session event.command event.outcome) (sym c.self.view_is) c.requires.permitted in
    let places : HasPlacesOfEnds (event ∷ past) (vec_capacity c.reserve_place.new.log) = c.in_ok-reserve_place.ensures.next in
    let before = subst (AreWaits g.R.Rules.kind c.self.inside.setup past) (sym (c.take_in.ensures.waits ∙ c.reserve.ensures.waits)) c.self.invariant.waits in
    let waits = c.waits_after-self-inside.ensures past describes (c.self.invariant.legal, permitted) before in
    let old : Situation = c.take_in.new.self in
    let new : Situation = record { sessions = old.sessions; rows = old.rows; waits = c.waits_after-self-inside.result; begun = old.begun; events = old.events } in
    let goes_on = same_log (event ∷ past) old new describes describes.sessions describes.states describes.rows refl refl in
    subst (λ (p : Past). Keeps g.R.Rules.kind c.self.inside.setup p c.retryable-self-inside.result new (vec_capacity c.push_reserved.new.self)) (sym longer)
    (record {
      legal = (c.self.invariant.legal, permitted);
      retryable = c.retryable-self-inside.ensures g.R.Rules.kind c.self.inside.setup (event ∷ past) goes_on waits;
      situation = goes_on;
      waits = waits;
      places_of_ends = omega (arith, places, c.push_reserved.ensures.capacity);
    })
