use Rattle.std.proofs.Common.{◌≡◌, drop}
use Rattle.lab_history.specs.RunningTables.{rows_within}
use Rattle.lab_history.proofs.tables.with_rows.Given as goal

abbrev pub invariant-loop-entry : goal.invariant-loop-entry
invariant-loop-entry g l = rows_within l.tables.names (drop l.entry-index l.entries) ≡ rows_within l.fn.tables.names l.entries
