mod LeastRows
mod LeastReads
mod ChangedRows
mod ReadConflicts
mod FirstReads
mod Decided
