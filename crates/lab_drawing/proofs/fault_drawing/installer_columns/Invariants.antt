use Rattle.std.proofs.Common.{◌≡◌, [], drop}
use Rattle.lab_drawing.specs.Sketch.{with_columns}
use Rattle.lab_drawing.proofs.fault_drawing.installer_columns.Given as goal

abbrev pub invariant-loop-txn : goal.invariant-loop-txn
invariant-loop-txn l = with_columns l.columns.items (drop l.txn-index l.installers) ≡ with_columns [] l.installers
