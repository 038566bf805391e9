use Rattle.std.proofs.Common.{◌≡◌, ◌++◌, map, drop}
use Rattle.lab_cut.specs.{Chosen.{has}, InRows.{txn_in_rows}}
use Rattle.lab_cut.proofs.rows.Chosen.txns.Given as goal

abbrev pub invariant-loop-txn : goal.invariant-loop-txn
invariant-loop-txn l = l.left.items ++ map (txn_in_rows (has l.self)) (drop l.txn-index l.txns) ≡ map (txn_in_rows (has l.self)) l.txns
