use Rattle.std.proofs.Common.{◌≡◌, ◌++◌, ◌+◌, drop}
use Rattle.lab_evidence.specs.Chains.{versions_text}
use Rattle.lab_evidence.proofs.chains.put_versions.Given as goal

abbrev pub invariant-loop-txn : goal.invariant-loop-txn
invariant-loop-txn l =
    (l.place ≡ l.before + l.txn-index)
    × (l.out.items ++ versions_text l.history l.scope l.row l.first l.second l.place (drop l.txn-index l.installers) ≡ l.initial.out.items ++ versions_text l.history l.scope l.row l.first l.second l.before l.installers)
