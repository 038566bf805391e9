use Rattle.std.proofs.Common.{◌≡◌, ◌++◌, drop, flat_map}
use Rattle.lab_evidence.specs.Transactions.{txn_text}
use Rattle.lab_evidence.proofs.transactions.put_txns.Given as goal

abbrev pub invariant-loop-txn : goal.invariant-loop-txn
invariant-loop-txn l = l.out.items ++ flat_map (txn_text l.history l.scope) (drop l.txn-index l.txns) ≡ l.initial.out.items ++ flat_map (txn_text l.history l.scope) l.txns
