use Rattle.std.{proofs.Common.{◌≡◌, ◌||◌, ◌==◌, ℕ, take}, specs.List.{list_any}}
use Rattle.lab_sets.specs.Sets.{has, room, room_for}
use Rattle.lab_order.proofs.ways.set_of.Given as goal

-- the node and the others so far
abbrev pub invariant-loop-other : goal.invariant-loop-other
invariant-loop-other l = record {
  room : room l.set ≡ room_for l.bound;
  set : (n : ℕ) → has l.set n ≡ (n == l.node || list_any (λ m. m == n) (take l.other-index l.others));
}
