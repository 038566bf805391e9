use Rattle.std.proofs.Common.{◌≡◌, take}
use Rattle.lab_session.specs.Closing.{seats_of}
use Rattle.lab_session.proofs.comparison.Comparison.new.Given as goal

-- the seats so far are of other sessions
abbrev pub invariant-loop-seat : goal.invariant-loop-seat
invariant-loop-seat l = seats_of l.session (take l.seat-index l.seats) ≡ 0
