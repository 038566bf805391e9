use Rattle.std.{proofs.Common.{◌≡◌, ◌+◌, ℕ, cond, length, take}, specs.Prelude.{◌==◌}}
use Rattle.lab_order.specs.Counts.{how_often, after}
use Rattle.lab_order.proofs.successors.note_successor.Given as goal

-- the node is noted behind those so far
abbrev pub invariant-loop-from : goal.invariant-loop-from
invariant-loop-from l = record {
  size : length l.rows ≡ length l.fn.rows;
  noted : (from to : ℕ) → how_often (after l.rows from) to ≡ how_often (after l.fn.rows from) to + cond (l.node == to) (how_often (take l.from-index l.nodes) from) 0;
}
