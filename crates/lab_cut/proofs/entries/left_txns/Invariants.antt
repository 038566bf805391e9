use Rattle.std.proofs.Common.{◌≡◌, ◌++◌, drop}
use Rattle.lab_cut.specs.Seen.{txns_seeing}
use Rattle.lab_cut.proofs.entries.left_txns.Given as goal

abbrev pub invariant-loop-txn : goal.invariant-loop-txn
invariant-loop-txn l = l.left.items ++ txns_seeing l.mask (drop l.txn-index l.txns) ≡ txns_seeing l.kept l.txns
