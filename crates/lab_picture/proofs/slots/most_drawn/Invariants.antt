use Rattle.std.proofs.Common.{◌≡◌, drop}
use Rattle.lab_picture.specs.Slots.{most_drawn}
use Rattle.lab_picture.proofs.slots.most_drawn.Given as goal

abbrev pub invariant-loop-txn : goal.invariant-loop-txn
invariant-loop-txn l =
    most_drawn l.history l.few l.arrows l.marked l.most (drop l.txn-index l.columns) ≡ most_drawn l.history l.few l.arrows l.marked 0 l.columns
