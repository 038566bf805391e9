use Rattle.std.proofs.Common.{◌≡◌, ◌≤◌, map}
use Rattle.lab_engine.specs.Recording.{numbers_from}
use Rattle.lab_session.specs.Seats.{new_seat}
use Rattle.lab_session.proofs.lab.new_seats.Given as goal

-- the seats so far
abbrev pub invariant-loop-session : goal.invariant-loop-session
invariant-loop-session l = (l.seats.items ≡ map new_seat (numbers_from 1 l.session-index)) × (l.session-index ≤ l.sessions)
