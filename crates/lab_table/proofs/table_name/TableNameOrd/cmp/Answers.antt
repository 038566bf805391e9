use Rattle.std.proofs.Common.{◌∙◌}
use Rattle.lab_table.{specs.TableName.{table_name_cmp}, proofs.Names.{names_compared}}
use Rattle.lab_table.proofs.table_name.TableNameOrd.cmp.Goals as goal

pub returns : goal.returns
returns c = c.order_of.ensures ∙ names_compared c.self.inside.bytes c.other.inside.bytes c.self.invariant c.other.invariant ∙ (λ i. table_name_cmp (c.self.view_is i) (c.other.view_is i))
