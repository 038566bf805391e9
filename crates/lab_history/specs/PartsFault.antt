-- What the fault of a history's parts states about them.
use Rattle.std.specs.Prelude.{◌≡◌, ℕ, ◌+◌, ◌<◌, false, [], length, map, sum, Some, slice_get}
use Rattle.std.specs.FinMap as finite
use Rattle.lab_table.specs.Row.{Row}
use Rattle.lab_printing.specs.Limits.{StatementPrints}
use Rattle.lab_history.specs.History.{History}
use Rattle.lab_history.specs.Limits.{max_transactions, max_operations, max_tables, max_ids, max_entries}
use Rattle.lab_history.specs.HistoryRules.{operations, named_tables, distinct_tables, named_rows, distinct_rows, op_entries, is_listed}
use Rattle.lab_history.specs.declared.fault.FileFault.{FileFault}
use Rattle.lab_history.specs.declared.fault.FileFault.TheVariants as fault
use Rattle.lab_history.specs.declared.fault.Limit.TheVariants as limit
use Rattle.lab_history.specs.declared.operation.Op.{Op}
use Rattle.lab_history.specs.declared.operation.VersionName.{VersionName}
use Rattle.lab_history.specs.declared.path.ListPlace.TheVariants as list
use Rattle.lab_history.specs.declared.path.Path.TheVariants as path
use Rattle.lab_history.specs.declared.transaction.Txn.{Txn}

-- of an operation at these places: its statement doesn't print, or its view lists a version that a file can't hold
pub data IsOpFault (txn by index : ℕ) (op : Op) : FileFault → Type 0 where
  unprintable : (StatementPrints op.statement → ⊥) → IsOpFault txn by index op (fault.BadStatement by (index + 1))
  unlisted : (k : ℕ) (e : Row × VersionName) → slice_get (finite.entries op.view) k ≡ Some e → is_listed e.1 ≡ false
      → IsOpFault txn by index op (fault.WrongFormat (path.Member (list.View txn index) k))

-- what a fault names is so; no other faults are any of parts
pub data IsPartsFault (h : History) : FileFault → Type 0 where
  many_transactions : max_transactions < length h.txns → IsPartsFault h (fault.OverLimit limit.Transactions)
  repeated : (i j : ℕ) (t u : Txn) → i < j → slice_get h.txns i ≡ Some t → slice_get h.txns j ≡ Some u → t.no ≡ u.no → IsPartsFault h (fault.RepeatedTxn u.no)
  many_operations : max_operations < length (operations h.txns) → IsPartsFault h (fault.OverLimit limit.Operations)
  of_operation : (i j : ℕ) (t : Txn) (op : Op) (f : FileFault) → slice_get h.txns i ≡ Some t → slice_get t.ops j ≡ Some op → IsOpFault i t.no j op f → IsPartsFault h f
  no_installer : (k : ℕ) (row : Row) → slice_get (finite.entries h.installed) k ≡ Some (row, []) → IsPartsFault h (fault.WrongFormat (path.Member list.Installed k))
  many_tables : max_tables < distinct_tables (named_tables h) → IsPartsFault h (fault.OverLimit limit.Tables)
  many_ids : max_ids < distinct_rows (named_rows h) → IsPartsFault h (fault.OverLimit limit.Ids)
  many_entries : max_entries < sum (map op_entries (operations h.txns)) → IsPartsFault h (fault.OverLimit limit.Entries)
