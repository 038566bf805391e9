use Rattle.std.proofs.Common.{◌≡◌, drop}
use Rattle.lab_history.specs.RunningCounts.{txns_within}
use Rattle.lab_history.proofs.ids.Ids.add_txns.Given as goal

abbrev pub invariant-loop-txn : goal.invariant-loop-txn
invariant-loop-txn l = txns_within l.self (drop l.txn-index l.txns) ≡ txns_within l.fn.self l.txns
