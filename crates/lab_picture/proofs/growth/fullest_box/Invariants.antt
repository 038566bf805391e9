use Rattle.std.proofs.Common.{◌≡◌, drop}
use Rattle.lab_picture.specs.Growth.{fullest_box}
use Rattle.lab_picture.proofs.growth.fullest_box.Given as goal

abbrev pub invariant-loop-index : goal.invariant-loop-index
invariant-loop-index l = fullest_box l.arrows l.txn l.index l.most (drop l.index l.ops) ≡ fullest_box l.arrows l.txn 0 l.least l.ops
