use Rattle.std.proofs.Common.{◌≡◌, ◌++◌, map}
use Rattle.lab_session.proofs.free.seats_of.Given as goal

-- the seats so far and those left give the whole
abbrev pub invariant-loop-one : goal.invariant-loop-one
invariant-loop-one l = record {
  can_next : goal.iterator-loop-one.can_next l.one-iterator;
  finite : goal.iterator-loop-one.is_finite l.one-iterator;
  whole : l.seats.items ++ map (λ e. e.seat) l.one-iterator.rest.items ≡ l.fn.all.idle.items ++ map (λ e. e.seat) l.fn.all.ended.items;
}
