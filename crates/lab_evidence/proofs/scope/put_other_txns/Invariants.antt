use Rattle.std.proofs.Common.{◌≡◌, ◌++◌, drop, flat_map}
use Rattle.lab_evidence.specs.Scope.{other_txn}
use Rattle.lab_evidence.proofs.scope.put_other_txns.Given as goal

abbrev pub invariant-loop-txn : goal.invariant-loop-txn
invariant-loop-txn l = l.out.items ++ flat_map (other_txn l.named) (drop l.txn-index l.txns) ≡ l.initial.out.items ++ flat_map (other_txn l.named) l.txns
