use Rattle.std.proofs.Common.{◌≡◌}
use Rattle.lab_session.proofs.lab.Lab.waited.Given as goal

-- the seat is as it was
abbrev pub invariant-loop : goal.invariant-loop
invariant-loop g l = record {
  can_next : (goal.iterator-loop g).can_next l.iterator';
  finite : (goal.iterator-loop g).is_finite l.iterator';
  same : l.seat ≡ l.fn.seat;
}
