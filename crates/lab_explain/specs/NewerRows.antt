-- Whether a fault may come from a statement that read rows newer than the snapshot that its view records.
use Rattle.std.specs.Prelude.{ℕ, Bool, true, false, ◌&&◌, not, Option, Some, None, is_none, List}
use Rattle.std.specs.FinMap as map
use Rattle.std.specs.List.{list_any}
use Rattle.lab_table.specs.Row.{Row}
use Rattle.lab_table.specs.Statement.{is_read_only, inserted, may_match}
use Rattle.lab_history.specs.History.{History}
use Rattle.lab_history.specs.Version.{ops_of, op_at, viewed}
use Rattle.lab_history.specs.declared.operation.Op.{Op}
use Rattle.lab_history.specs.declared.operation.VersionName.{VersionName}
use Rattle.lab_history.specs.declared.operation.VersionName.TheVariants.{Initial, Of}
use Rattle.lab_history.specs.declared.transaction.Outcome.{Outcome}
use Rattle.lab_history.specs.declared.transaction.Outcome.TheVariants.{Committed, Aborted}
use Rattle.lab_history.specs.declared.transaction.Txn.{Txn}
use Rattle.lab_deps.specs.FaultKinds.{parts_of}
use Rattle.lab_deps.specs.declared.fault.FaultParts.{FaultParts}
use Rattle.lab_deps.specs.declared.fault.FaultParts.TheVariants as parts
use Rattle.lab_deps.specs.declared.kind.OpFault.TheVariants.{Dangling, AbortedRead, IntermediateRead, OwnWriteMissed, LaterThanOwn, RowsDiffer, WritesDiffer}
use Rattle.lab_deps.specs.declared.kind.RowFault.TheVariants.{InstallOrder, EndDiffers}
use Rattle.lab_judge.specs.declared.serial.Serial.{Serial}
use Rattle.lab_judge.specs.declared.serial.Serial.TheVariants as serial

-- whether an operation may have found a row and changed it, as an update or a delete does
abbrev pub may_change : Op → Row → Bool
may_change op row = not (is_read_only op.statement) && is_none (inserted op.statement) && may_match op.statement row

-- whether there is an operation that may have changed a row, and isn't recorded to have written it
abbrev pub is_unrecorded : Option Op → Row → Bool
is_unrecorded None row = false
is_unrecorded (Some writer) row = is_none (map.get writer.writes row) && may_change writer row

-- whether a version of a row is named for such an operation
abbrev pub is_change : History → Row → VersionName → Bool
is_change h row Initial = false
is_change h row (Of n k) = is_unrecorded (op_at (ops_of h n) k) row

-- whether an operation sees such a version of a row
abbrev pub sees_change : History → Option Op → Row → Bool
sees_change h None row = false
sees_change h (Some op) row = is_change h row (viewed op row)

-- whether a transaction committed
abbrev pub has_committed : Outcome → Bool
has_committed Committed = true
has_committed Aborted = false

-- whether one of some operations may have found a row and changed it
abbrev pub may_have_changed : Row → List Op → Bool
may_have_changed row ops = list_any (λ op. may_change op row) ops

-- whether a transaction that committed may have changed a row that it found
abbrev pub is_changed_by : Row → Txn → Bool
is_changed_by row t = has_committed t.outcome && may_have_changed row t.ops

-- whether some transaction did
abbrev pub is_changed : History → Row → Bool
is_changed h row = list_any (is_changed_by row) h.txns

-- whether a fault is one that comes where an update or a delete read newer rows than its view has: a version that it would have written and that isn't there, or an end that isn't what is recorded of it
abbrev pub may_be_of_newer_rows : History → FaultParts → Bool
may_be_of_newer_rows h (parts.Operation Dangling n k row) = sees_change h (op_at (ops_of h n) k) row
may_be_of_newer_rows h (parts.Operation AbortedRead n k row) = false
may_be_of_newer_rows h (parts.Operation IntermediateRead n k row) = false
may_be_of_newer_rows h (parts.Operation OwnWriteMissed n k row) = false
may_be_of_newer_rows h (parts.Operation LaterThanOwn n k row) = false
may_be_of_newer_rows h (parts.Operation RowsDiffer n k row) = false
may_be_of_newer_rows h (parts.Operation WritesDiffer n k row) = false
may_be_of_newer_rows h (parts.Row InstallOrder row) = false
may_be_of_newer_rows h (parts.Row EndDiffers row) = is_changed h row

-- whether the fault of a serial verdict, if it is one, is such a fault
abbrev pub may_have_read_newer_rows : History → Serial → Bool
may_have_read_newer_rows h (serial.Yes order) = false
may_have_read_newer_rows h (serial.NoFault f) = may_be_of_newer_rows h (parts_of f)
may_have_read_newer_rows h (serial.NoCycle walk) = false
