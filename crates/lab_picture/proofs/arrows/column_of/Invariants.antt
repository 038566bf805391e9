use Rattle.std.proofs.Common.{◌≡◌, drop}
use Rattle.lab_picture.specs.Arrows.{column_of}
use Rattle.lab_picture.proofs.arrows.column_of.Given as goal

abbrev pub invariant-loop-column : goal.invariant-loop-column
invariant-loop-column l = column_of l.column l.txn (drop l.column l.columns) ≡ column_of 0 l.txn l.columns
