use Rattle.std.proofs.Common.{◌≡◌, ◌++◌, drop}
use Rattle.lab_cut.specs.{Cut.{left_txns}, Kept.{kept_in}}
use Rattle.lab_cut.proofs.moved.left_txns.Given as goal

abbrev pub invariant-loop-txn : goal.invariant-loop-txn
invariant-loop-txn l = l.left.items ++ left_txns (kept_in l.moves) l.mask (drop l.txn-index l.txns) ≡ left_txns (kept_in l.moves) l.kept l.txns
