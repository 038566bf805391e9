use Rattle.std.proofs.Common.{◌≡◌, drop, [], map}
use Rattle.std.specs.FinMap as finite
use Rattle.indexmap.specs.IndexMap.{insert_all}
use Rattle.lab_table.specs.Row.{row_test}
use Rattle.lab_deps.specs.EdgesByRow.{with_versions, rows_of}
use Rattle.lab_deps.proofs.rows.versions_of_rows.Given as goal

abbrev pub invariant-loop-row : goal.invariant-loop-row
invariant-loop-row l = insert_all row_test l.rows.entries (map (with_versions l.history) (drop l.row-index (finite.entries l.history.installed))) ≡ insert_all row_test [] (rows_of l.history)
