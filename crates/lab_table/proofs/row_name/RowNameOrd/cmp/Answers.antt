use Rattle.std.proofs.Common.{sym, ◌∙◌}
use Rattle.lab_table.{specs.Row.{Row, row_cmp}, proofs.RowOrder.{in_one_table, in_two_tables}}
use Rattle.lab_table.proofs.row_name.RowNameOrd.cmp.Goals as goal

pub returns-then-eq : goal.returns-then-eq
returns-then-eq c =
    let a : Row = record { table = c.self.inside.table; id = c.self.inside.id } in
    let b : Row = record { table = c.other.inside.table; id = c.other.inside.id } in
    c.cmp.ensures ∙ sym (in_one_table a b (sym c.eq.ensures ∙ c.if-eq.true)) ∙ (λ i. row_cmp (c.self.view_is i) (c.other.view_is i))

pub returns-else-eq : goal.returns-else-eq
returns-else-eq c =
    let a : Row = record { table = c.self.inside.table; id = c.self.inside.id } in
    let b : Row = record { table = c.other.inside.table; id = c.other.inside.id } in
    c.cmp-else-eq.ensures ∙ sym (in_two_tables a b (sym c.eq.ensures ∙ c.if-eq.false)) ∙ (λ i. row_cmp (c.self.view_is i) (c.other.view_is i))
