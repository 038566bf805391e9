use Rattle.std.proofs.Common.{◌≡◌, None, drop}
use Rattle.lab_cut.specs.{Cut.{last_staying}, Kept.{kept_in}}
use Rattle.lab_cut.proofs.installers.last_staying.Given as goal

abbrev pub invariant-loop-txn : goal.invariant-loop-txn
invariant-loop-txn l = last_staying (kept_in l.moves) l.history l.row l.last (drop l.txn-index l.installers) ≡ last_staying (kept_in l.moves) l.history l.row None l.installers
