use Rattle.std.proofs.Common.{◌∙◌, ap}
use Rattle.lab_table.specs.Row.{row_eq, rows_tested}
use Rattle.lab_table.proofs.statement.Statement.is_own.Goals as goal

pub returns : goal.returns
returns c = c.eq.ensures ∙ rows_tested c.args.row c.row.result ∙ ap (row_eq c.args.row) c.row.ensures
