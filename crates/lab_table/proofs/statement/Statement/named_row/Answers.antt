use Rattle.std.proofs.Common.{◌∙◌, ap, sym}
use Rattle.lab_table.{specs.Statement.{kind_may_match}, proofs.Maps.{same_row}}
use Rattle.lab_table.proofs.statement.Statement.named_row.Goals as goal

pub returns-in-Insert-clause-only : goal.returns-in-Insert-clause-only
returns-in-Insert-clause-only c = λ other may. same_row other _ (ap (λ k. kind_may_match c.args.self.now.table k other) (sym c.in-Insert.is) ∙ may) ∙ sym c.row.ensures
