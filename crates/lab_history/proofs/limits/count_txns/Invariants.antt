use Rattle.std.proofs.Common.{◌≡◌, ◌≤◌, drop}
use Rattle.lab_history.specs.RunningCounts.{txns_counted}
use Rattle.lab_history.proofs.limits.count_txns.Given as goal

abbrev pub invariant-loop-txn : goal.invariant-loop-txn
invariant-loop-txn l = (txns_counted l.total (drop l.txn-index l.txns) ≡ txns_counted 0 l.txns) × (l.total ≤ 200000)
