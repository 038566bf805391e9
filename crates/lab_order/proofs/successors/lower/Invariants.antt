use Rattle.std.{proofs.Common.{◌≡◌, ◌+◌, ◌-◌, ◌&&◌, ℕ, cond, length, take}, specs.Prelude.{◌==◌, nat_lt}}
use Rattle.lab_order.specs.Counts.{how_often, waits_of}
use Rattle.lab_order.proofs.successors.lower.Given as goal

-- the nodes so far wait for one fewer each
abbrev pub invariant-loop-node : goal.invariant-loop-node
invariant-loop-node l = record {
  size : length l.waits ≡ length l.fn.waits;
  counts : (node : ℕ) → waits_of l.waits node ≡ waits_of l.fn.waits node - how_often (take l.node-index l.nodes) node;
  free : (node : ℕ) → how_often l.free node ≡ how_often l.fn.free node + cond (nat_lt 0 (waits_of l.fn.waits node) && waits_of l.waits node == 0) 1 0;
}
