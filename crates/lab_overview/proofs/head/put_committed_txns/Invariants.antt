use Rattle.std.proofs.Common.{◌≡◌, ◌++◌, drop}
use Rattle.lab_overview.specs.Head.{committed_txns}
use Rattle.lab_overview.proofs.head.put_committed_txns.Given as goal

abbrev pub invariant-loop-txn : goal.invariant-loop-txn
invariant-loop-txn l = l.out.items ++ committed_txns (drop l.txn-index l.txns) ≡ l.initial.out.items ++ committed_txns l.txns
