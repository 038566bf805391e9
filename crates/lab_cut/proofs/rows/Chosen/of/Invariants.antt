use Rattle.std.{proofs.Common.{◌≡◌, ◌||◌, drop}, specs.List.{list_any}}
use Rattle.lab_table.specs.Row.{Row, row_eq}
use Rattle.lab_cut.specs.Chosen.{has}
use Rattle.lab_cut.proofs.rows.Chosen.of.Given as goal

abbrev pub invariant-loop-row : goal.invariant-loop-row
invariant-loop-row l = (row : Row) → (has l.chosen row || list_any (row_eq row) (drop l.row-index l.rows)) ≡ list_any (row_eq row) l.rows
