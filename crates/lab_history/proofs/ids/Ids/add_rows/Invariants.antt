use Rattle.std.proofs.Common.{◌≡◌, drop}
use Rattle.lab_history.specs.RunningCounts.{rows_within}
use Rattle.lab_history.proofs.ids.Ids.add_rows.Given as goal

abbrev pub invariant-loop-entry : goal.invariant-loop-entry
invariant-loop-entry g l = rows_within l.self (drop l.entry-index l.entries) ≡ rows_within l.fn.self l.entries
