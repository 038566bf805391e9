use Rattle.std.proofs.Common.{◌≡◌, None, drop}
use Rattle.lab_cut.specs.{Cut.{goes, last_of_front}, Kept.{kept_in}}
use Rattle.lab_cut.proofs.installers.last_of_front.Given as goal

abbrev pub invariant-loop-txn : goal.invariant-loop-txn
invariant-loop-txn l =
    last_of_front (goes (kept_in l.moves) l.history l.row) l.last (drop l.txn-index l.installers) ≡ last_of_front (goes (kept_in l.moves) l.history l.row) None l.installers
