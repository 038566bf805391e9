use Rattle.std.{proofs.Common.{◌++◌, drop}, specs.List.{flat_map}}
use Rattle.std.specs.FinMap as map
use Rattle.lab_deps.specs.{Collected.{neighbours_at}, EdgesByRow.{HasMembersOf, found_in}}
use Rattle.lab_deps.proofs.collect.edges_of_txns.Given as goal

-- the edges so far and those of the transactions that are left are all
abbrev pub invariant-loop-txn : goal.invariant-loop-txn
invariant-loop-txn l =
    HasMembersOf (l.edges.items ++ flat_map (found_in l.history) (drop l.txn-index l.history.txns))
    (flat_map neighbours_at (map.entries l.history.installed) ++ flat_map (found_in l.history) l.history.txns)
