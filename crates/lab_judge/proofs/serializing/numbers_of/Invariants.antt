use Rattle.std.proofs.Common.{◌≡◌, map, take, slice_index}
use Rattle.lab_judge.proofs.serializing.numbers_of.Given as goal

-- the numbers of the nodes so far
abbrev pub invariant-loop-node : goal.invariant-loop-node
invariant-loop-node l = l.numbers.items ≡ map (λ node. slice_index l.net.numbers node) (take l.node-index l.order)
