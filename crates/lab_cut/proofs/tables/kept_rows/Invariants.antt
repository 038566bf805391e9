use Rattle.std.proofs.Common.{◌≡◌, ◌++◌, drop}
use Rattle.lab_cut.specs.Overlaid.{kept_rows}
use Rattle.lab_cut.proofs.tables.kept_rows.Given as goal

abbrev pub invariant-loop-row : goal.invariant-loop-row
invariant-loop-row l = l.rows.items ++ kept_rows l.states (drop l.row-index l.entries) ≡ kept_rows l.states l.entries
