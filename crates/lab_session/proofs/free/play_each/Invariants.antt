use Rattle.std.{proofs.Common.{◌≡◌}, specs.List.{All}}
use Rattle.lab_session.specs.{Play.{given_lines}, Free.{AllPlayed}}
use Rattle.lab_session.proofs.free.play_each.Given as goal

-- the promises are of these lines, and the idle seats have all that their sessions give
abbrev pub invariant-loop-seat : goal.invariant-loop-seat
invariant-loop-seat g l = record {
  can_next : (goal.iterator-loop-seat g).can_next l.seat-iterator;
  finite : (goal.iterator-loop-seat g).is_finite l.seat-iterator;
  promised : All (λ t. t.promise.lines.now ≡ l.lines) l.threads.items;
  idle : AllPlayed (given_lines l.lines) l.idle.items;
}
