use Rattle.std.proofs.Common.{◌≡◌, ◌++◌, drop}
use Rattle.lab_cut.specs.{Cut.{staying}, Kept.{kept_in}}
use Rattle.lab_cut.proofs.installers.staying.Given as goal

abbrev pub invariant-loop-txn : goal.invariant-loop-txn
invariant-loop-txn l = l.left.items ++ staying (kept_in l.moves) l.history l.row (drop l.txn-index l.installers) ≡ staying (kept_in l.moves) l.history l.row l.installers
