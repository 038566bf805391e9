use Rattle.std.proofs.Common.{List, sym, subst}
use Rattle.lab_script.specs.declared.script.Line.{Line}
use Rattle.lab_session.{specs.{Play.{given_lines}, Closing.{AreClosed, IsLabCloseFault}, Free.{AllPlayed, IsFreeFault}}, proofs.FreePlays.{all_played, closed_played, unclosed_free}}
use Rattle.lab_session.proofs.free.play_from.Goals as goal

pub returns-in-Ok-close-clause-played : goal.returns-in-Ok-close-clause-played
returns-in-Ok-close-clause-played g c =
    let seats = c.in-Ok-seats_of.seats.items in
    let played : AllPlayed (given_lines c.as_slice.result.now) seats =
    subst (AllPlayed (given_lines c.as_slice.result.now)) (sym c.in-Ok-seats_of.ensures.seats)
    (all_played (given_lines c.as_slice.result.now) c.in-Ok.all.idle.items c.in-Ok.all.ended.items c.in-Ok.ensures.ended c.in-Ok-seats_of.ensures.none c.in-Ok.ensures.idle) in
    closed_played (given_lines c.args.script.now.lines) c.in-Ok-close.recording.log seats
    (subst (λ n. AreClosed n c.in-Ok-close.recording.log seats) c.in_ok-lab.ensures.lab c.in-Ok-close.ensures.closed)
    (subst (λ (l : List Line). AllPlayed (given_lines l) seats) c.as_slice.ensures played)

pub returns-in-Err-close-clause-fault : goal.returns-in-Err-close-clause-fault
returns-in-Err-close-clause-fault g c =
    let seats = c.in-Ok-seats_of.seats.items in
    let played : AllPlayed (given_lines c.as_slice.result.now) seats =
    subst (AllPlayed (given_lines c.as_slice.result.now)) (sym c.in-Ok-seats_of.ensures.seats)
    (all_played (given_lines c.as_slice.result.now) c.in-Ok.all.idle.items c.in-Ok.all.ended.items c.in-Ok.ensures.ended c.in-Ok-seats_of.ensures.none c.in-Ok.ensures.idle) in
    let engine = c.in-Err-close.ensures.fault.0 in
    let refused : IsLabCloseFault g.O.Origin.level g.O.Origin.setup 9 seats c.in-Err-close.refused.2 =
    subst (λ l. IsLabCloseFault l g.O.Origin.setup 9 seats c.in-Err-close.refused.2) engine.level_is
    (subst (λ s. IsLabCloseFault (g.E.Engine.kind engine.engine) s 9 seats c.in-Err-close.refused.2) engine.setup_is
    (subst (λ n. IsLabCloseFault (g.E.Engine.kind engine.engine) (g.E.Engine.opening engine.engine) n seats c.in-Err-close.refused.2) c.in_ok-lab.ensures.lab c.in-Err-close.ensures.fault.1)) in
    subst (IsFreeFault g.O.Origin.level g.O.Origin.setup (given_lines c.args.script.now.lines)) (sym c.unclosed.ensures)
    (unclosed_free g.O.Origin.level g.O.Origin.setup (given_lines c.args.script.now.lines) seats (subst (λ (l : List Line). AllPlayed (given_lines l) seats) c.as_slice.ensures played) c.in-Err-close.refused.2 refused)
