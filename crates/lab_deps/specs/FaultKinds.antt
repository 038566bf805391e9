-- The kinds of faults, with the code and the name of each; a fault as its kind and its position, which is an
-- operation and a row, or a row alone.
use Rattle.std.specs.Prelude.{ℕ, List, codes}
use Rattle.lab_table.specs.Row.{Row}
use Rattle.lab_deps.specs.declared.fault.FaultParts.{FaultParts}
use Rattle.lab_deps.specs.declared.fault.FaultParts.TheVariants as parts
use Rattle.lab_deps.specs.declared.fault.LocalFault.{LocalFault}
use Rattle.lab_deps.specs.declared.fault.LocalFault.TheVariants as fault
use Rattle.lab_deps.specs.declared.kind.OpFault.{OpFault}
use Rattle.lab_deps.specs.declared.kind.OpFault.TheVariants as kind
use Rattle.lab_deps.specs.declared.kind.RowFault.{RowFault}
use Rattle.lab_deps.specs.declared.kind.RowFault.TheVariants as row_kind

-- what is said of a kind of fault: its code, as `F1`, and its name
pub record KindEntry : Type 0 where
  pub code : List ℕ
  pub name : List ℕ

-- of a kind of faults at an operation and a row
abbrev pub op_entry : OpFault → KindEntry
op_entry kind.Dangling = record { code = codes "F1"; name = codes "Dangling" }
op_entry kind.AbortedRead = record { code = codes "F2"; name = codes "AbortedRead" }
op_entry kind.IntermediateRead = record { code = codes "F3"; name = codes "IntermediateRead" }
op_entry kind.OwnWriteMissed = record { code = codes "F4"; name = codes "OwnWriteMissed" }
op_entry kind.LaterThanOwn = record { code = codes "F5"; name = codes "LaterThanOwn" }
op_entry kind.RowsDiffer = record { code = codes "F6"; name = codes "RowsDiffer" }
op_entry kind.WritesDiffer = record { code = codes "F7"; name = codes "WritesDiffer" }

-- of a kind of faults at a row alone
abbrev pub row_entry : RowFault → KindEntry
row_entry row_kind.InstallOrder = record { code = codes "F8"; name = codes "InstallOrder" }
row_entry row_kind.EndDiffers = record { code = codes "F9"; name = codes "EndDiffers" }

-- a fault's kind and place
abbrev pub parts_of : LocalFault → FaultParts
parts_of (fault.Dangling n k row) = parts.Operation kind.Dangling n k row
parts_of (fault.AbortedRead n k row) = parts.Operation kind.AbortedRead n k row
parts_of (fault.IntermediateRead n k row) = parts.Operation kind.IntermediateRead n k row
parts_of (fault.OwnWriteMissed n k row) = parts.Operation kind.OwnWriteMissed n k row
parts_of (fault.LaterThanOwn n k row) = parts.Operation kind.LaterThanOwn n k row
parts_of (fault.RowsDiffer n k row) = parts.Operation kind.RowsDiffer n k row
parts_of (fault.WritesDiffer n k row) = parts.Operation kind.WritesDiffer n k row
parts_of (fault.InstallOrder row) = parts.Row row_kind.InstallOrder row
parts_of (fault.EndDiffers row) = parts.Row row_kind.EndDiffers row

-- the fault of a kind at an operation and a row
abbrev pub op_fault : OpFault → ℕ → ℕ → Row → LocalFault
op_fault kind.Dangling n k row = fault.Dangling n k row
op_fault kind.AbortedRead n k row = fault.AbortedRead n k row
op_fault kind.IntermediateRead n k row = fault.IntermediateRead n k row
op_fault kind.OwnWriteMissed n k row = fault.OwnWriteMissed n k row
op_fault kind.LaterThanOwn n k row = fault.LaterThanOwn n k row
op_fault kind.RowsDiffer n k row = fault.RowsDiffer n k row
op_fault kind.WritesDiffer n k row = fault.WritesDiffer n k row

-- the fault of a kind at a row alone
abbrev pub row_fault : RowFault → Row → LocalFault
row_fault row_kind.InstallOrder row = fault.InstallOrder row
row_fault row_kind.EndDiffers row = fault.EndDiffers row

-- the fault of this kind and place
abbrev pub fault_of : FaultParts → LocalFault
fault_of (parts.Operation kind n k row) = op_fault kind n k row
fault_of (parts.Row kind row) = row_fault kind row
