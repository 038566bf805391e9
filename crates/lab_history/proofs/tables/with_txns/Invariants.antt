use Rattle.std.proofs.Common.{◌≡◌, drop}
use Rattle.lab_history.specs.RunningTables.{txns_within}
use Rattle.lab_history.proofs.tables.with_txns.Given as goal

abbrev pub invariant-loop-txn : goal.invariant-loop-txn
invariant-loop-txn l = txns_within l.tables.names (drop l.txn-index l.txns) ≡ txns_within l.fn.tables.names l.txns
