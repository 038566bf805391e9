use Rattle.std.{proofs.Common.{ℕ, List, ◌++◌, drop}, specs.List.{flat_map}}
use Rattle.lab_deps.specs.{EdgesByRow.{HasMembersOf, found_by}, Numbering.{HasPlaces}}
use Rattle.lab_deps.proofs.collect.edges_of_ops.Given as goal

-- the edges so far and those of the operations that are left are all
abbrev pub invariant-loop-op : goal.invariant-loop-op
invariant-loop-op l = (ps : List ℕ) → HasPlaces l.history ps → HasMembersOf (l.edges.items ++ flat_map (found_by l.history l.txn) (drop l.op-index l.ops)) (flat_map (found_by l.history l.txn) l.ops)
