use Rattle.std.{proofs.Common.{◌≡◌, ℕ, cond, ◌&&◌}, specs.Prelude.{◌==◌, nat_lt}}
use Rattle.lab_order.specs.Counts.{how_often, waits_of}
use Rattle.lab_order.proofs.successors.waiting_for_none.Given as goal

-- those so far that wait for none
abbrev pub invariant-loop-node : goal.invariant-loop-node
invariant-loop-node l = (node : ℕ) → how_often l.free node ≡ cond (nat_lt node l.node && waits_of l.waits node == 0) 1 0
