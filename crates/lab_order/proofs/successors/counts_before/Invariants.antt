use Rattle.std.{proofs.Common.{◌≡◌, ℕ, cond, length}, specs.Prelude.{nat_lt}}
use Rattle.lab_order.specs.{Arrows.{before}, Counts.{waits_of}}
use Rattle.lab_order.proofs.successors.counts_before.Given as goal

-- the nodes so far are counted
abbrev pub invariant-loop-node : goal.invariant-loop-node
invariant-loop-node l = record {
  size : length l.waits.items ≡ l.node;
  counts : (node : ℕ) → waits_of l.waits.items node ≡ cond (nat_lt node l.node) (length (before l.graph node)) 0;
}
