use Rattle.std.proofs.Common.{◌≡◌, drop}
use Rattle.lab_picture.specs.Growth.{fullest}
use Rattle.lab_picture.proofs.growth.fullest.Given as goal

abbrev pub invariant-loop-txn : goal.invariant-loop-txn
invariant-loop-txn l = fullest l.history l.arrows l.most (drop l.txn-index l.columns) ≡ fullest l.history l.arrows 4 l.columns
