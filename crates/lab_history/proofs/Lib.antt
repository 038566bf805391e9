pub mod Rising
pub mod Steps
pub mod NewStates
pub mod Equal
pub mod Standing
pub mod Halving
pub mod FirstValues
pub mod LastWrites
pub mod Greatest
pub mod TxnPlaces
pub mod InstallerPlaces
pub mod CountedEntries
pub mod CountedRows
mod RowsMet
mod IdsWithin
mod CountedTables
pub mod NamedRows
pub mod FewIds
pub mod RangeEnds
pub mod LimitsKept
pub mod CheckedTxns
pub mod KeptParts
pub mod PassedOps
pub mod PartsFaults
pub mod OpsFaults
pub mod Appended
pub mod KeptOperations
