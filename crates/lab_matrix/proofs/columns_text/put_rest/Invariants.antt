use Rattle.std.proofs.Common.{◌≡◌, ◌++◌, ◌-◌, drop}
use Rattle.lab_matrix.specs.Columns.{rest_of}
use Rattle.lab_matrix.proofs.columns_text.put_rest.Given as goal

abbrev pub invariant-loop-column : goal.invariant-loop-column
invariant-loop-column l = l.out.items ++ rest_of l.line l.free (drop l.column-index l.columns) ≡ l.initial.out.items ++ rest_of l.line (10 - l.lead) l.columns
