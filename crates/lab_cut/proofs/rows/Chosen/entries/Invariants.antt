use Rattle.std.{proofs.Common.{◌≡◌, ◌++◌, drop}, specs.FinMap.Entries.{where_key}}
use Rattle.lab_table.specs.Row.{row_cmp}
use Rattle.lab_cut.specs.Chosen.{has}
use Rattle.lab_cut.proofs.rows.Chosen.entries.Given as goal

abbrev pub invariant-loop-entry : goal.invariant-loop-entry
invariant-loop-entry g l = l.left.items ++ where_key row_cmp (has l.self) (drop l.entry-index l.entries) ≡ where_key row_cmp (has l.self) l.entries
