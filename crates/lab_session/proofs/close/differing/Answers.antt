use Rattle.std.{proofs.Common.{[], refl, arith, subst, get_or}, specs.Option.{IsSomeAnd}}
use Rattle.lab_table.{specs.Sessions.{all_sessions}, proofs.SessionOrder.{session_at, none_yet, one_more}}
use Rattle.lab_session.specs.{Seats.{placed_calls}, Compared.{Says}}
use Rattle.lab_session.proofs.close.differing.Goals as goal

pub loop-session-init : goal.loop-session-init
loop-session-init c = none_yet _

pub returns-in-Some : goal.returns-in-Some
returns-in-Some c =
    let session = get_or all_sessions c.loop-session.session-index c.session-item.result in
    let at = session_at _ c.loop-session.session-index c.session-item.result refl c.loop-session-test.true in
    let says : Says c.args.seats.now session (placed_calls session c.args.log.now) [] c.get.result =
    subst (λ o. IsSomeAnd o (Says c.args.seats.now session (placed_calls session c.args.log.now) [])) c.get.ensures.value
    (c.compared-comparisons.ensures session (c.get.ensures.low, c.get.ensures.high)) in record {
      differs = c.in-Some.ensures c.args.log.now c.args.seats.now session (c.requires session c.get.ensures.low (omega (arith, c.get.ensures.high))) says;
      least = λ other low less. c.loop-session.invariant other low (omega (arith, at, less));
    }

pub loop-session-preserved : goal.loop-session-preserved
loop-session-preserved c =
    let session = get_or all_sessions c.loop-session.session-index c.session-item.result in
    let says : Says c.args.seats.now session (placed_calls session c.args.log.now) [] c.get.result =
    subst (λ o. IsSomeAnd o (Says c.args.seats.now session (placed_calls session c.args.log.now) [])) c.get.ensures.value
    (c.compared-comparisons.ensures session (c.get.ensures.low, c.get.ensures.high)) in
    one_more _ _ c.loop-session.session-index c.session-item.result refl c.loop-session-test.true c.loop-session.invariant
    (c.in_default.ensures c.args.log.now c.args.seats.now session (c.requires session c.get.ensures.low (omega (arith, c.get.ensures.high))) says)

pub returns : goal.returns
returns c = λ session low high. c.loop-session.invariant session low (omega (arith, high, c.loop-session-test.false))
