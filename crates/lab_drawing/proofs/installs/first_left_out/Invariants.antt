use Rattle.std.proofs.Common.{◌≡◌, drop}
use Rattle.lab_drawing.specs.Installs.{first_left_out}
use Rattle.lab_drawing.proofs.installs.first_left_out.Given as goal

-- the transaction is found among those that are left as among all
abbrev pub invariant-loop-txn : goal.invariant-loop-txn
invariant-loop-txn l = first_left_out l.history l.row (drop l.txn-index l.txns) ≡ first_left_out l.history l.row l.txns
