use Rattle.std.proofs.Common.{◌≡◌, ◌-◌, ◌+◌, refl, ◌∙◌, ap, map, arith}
use Rattle.lab_table.proofs.SessionOrder.{session_at}
use Rattle.lab_engine.{specs.Recording.{numbers_from}, proofs.GatheredNumbers.{each_next}}
use Rattle.lab_session.specs.Seats.{new_seat}
use Rattle.lab_session.proofs.lab.new_seats.Goals as goal

pub returns-then-number-sessions : goal.returns-then-number-sessions
returns-then-number-sessions c =
    let at = session_at _ c.loop-session.session-index c.session-item.result refl c.loop-session-test.true in
    c.loop-session.invariant.0 ∙ ap (λ n. map new_seat (numbers_from 1 n)) (omega (arith, at, c.number.ensures.value, c.if-number-sessions.true, c.loop-session.invariant.1))

pub loop-session-preserved : goal.loop-session-preserved
loop-session-preserved c =
    let index = c.loop-session.session-index in
    let at = session_at _ index c.session-item.result refl c.loop-session-test.true in
    let here : index ≡ index + 1 - 1 = omega arith in
    let next : index + 1 + 1 - 1 ≡ index + 1 = omega arith in
    let so_far : c.loop-session.seats.items ≡ map new_seat (numbers_from 1 (index + 1 - 1)) = c.loop-session.invariant.0 ∙ ap (λ k. map new_seat (numbers_from 1 k)) here in (
      each_next new_seat (index + 1) _ c.new.result c.loop-session.seats.items c.push.new.self.items so_far (omega arith) c.in_ok-push.ensures.items c.new.ensures (omega (arith, at))
          ∙ ap (λ k. map new_seat (numbers_from 1 k)) next,
      omega (arith, at, c.number.ensures.value, c.if-number-sessions.false),
    )

pub returns : goal.returns
returns c = c.loop-session.invariant.0 ∙ ap (λ n. map new_seat (numbers_from 1 n)) (omega (arith, c.requires, c.loop-session.invariant.1, c.loop-session-test.false))
