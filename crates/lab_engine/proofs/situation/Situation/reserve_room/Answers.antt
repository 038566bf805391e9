use Rattle.lab_engine.proofs.{Common.{HoldsOutcome, on_ok_weaker, Outcome, refl, running_of, subst, sym, OnOk}, Describing.{same_log, same_rows}}
use Rattle.lab_engine.proofs.situation.Situation.reserve_room.Goals as goal

pub reserve_places-requires : goal.reserve_places-requires
reserve_places-requires c = c.requires.2.sessions

pub returns-in_err-reserve_places-in-Rows-clause-same : goal.returns-in_err-reserve_places-in-Rows-clause-same
returns-in_err-reserve_places-in-Rows-clause-same c level past is =
    same_log past c.args.self.now _ is c.reserve_places.ensures.sessions (c.reserve_places.ensures.same level past is.states) is.rows refl refl

pub returns-in_ok-reserve_places-in-Rows-clause-same : goal.returns-in_ok-reserve_places-in-Rows-clause-same
returns-in_ok-reserve_places-in-Rows-clause-same c level past is =
    same_log past c.args.self.now _ is c.reserve_places.ensures.sessions (c.reserve_places.ensures.same level past is.states)
    (same_rows past c.args.self.now.rows c.reserve_each.new.self c.reserve_each.ensures.same is.rows) refl refl

pub returns-in_ok-reserve_places-in-Rows-clause-room : goal.returns-in_ok-reserve_places-in-Rows-clause-room
returns-in_ok-reserve_places-in-Rows-clause-room c =
    subst (λ (o : Outcome). OnOk c.reserve_each.result (HoldsOutcome c.args.keeps o (running_of c.reserve_places.new.states c.args.event.now.session) c.reserve_each.new.self)) (sym c.in-Rows.is)
    (on_ok_weaker c.reserve_each.result (λ ready. (c.in_ok-reserve_places-in-Rows.ensures.places, ready)) c.reserve_each.ensures.ready)
