use Rattle.std.{proofs.Common.{◌≡◌, drop}, specs.List.{list_any}}
use Rattle.lab_picture.specs.Columns.{is_thin}
use Rattle.lab_picture.proofs.column_notes.some_thin.Given as goal

abbrev pub invariant-loop-txn : goal.invariant-loop-txn
invariant-loop-txn l = list_any (is_thin l.thin) (drop l.txn-index l.columns) ≡ list_any (is_thin l.thin) l.columns
