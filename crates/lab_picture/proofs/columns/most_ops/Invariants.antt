use Rattle.std.proofs.Common.{◌≡◌, drop}
use Rattle.lab_picture.specs.Columns.{most_from}
use Rattle.lab_picture.proofs.columns.most_ops.Given as goal

abbrev pub invariant-loop-txn : goal.invariant-loop-txn
invariant-loop-txn l = most_from l.history l.most (drop l.txn-index l.columns) ≡ most_from l.history 0 l.columns
