use Rattle.std.proofs.Common.{◌≡◌, ◌++◌, drop, ◌≤◌, length}
use Rattle.lab_history.specs.{HistoryRules.{operations}, Index.{written}}
use Rattle.lab_history.proofs.index.last_writes_of.Given as goal

abbrev pub invariant-loop-txn : goal.invariant-loop-txn
invariant-loop-txn l = (l.writes.items ++ written (drop l.txn-index l.txns) ≡ written l.txns) × (length (operations (drop l.txn-index l.txns)) ≤ 10000)
