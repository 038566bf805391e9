use Rattle.std.{proofs.Common.{sym, ap, ◌∙◌}, specs.{Prelude.{nat_lt}, Ordering.{is_gt}}}
use Rattle.lab_table.{specs.Row.{Row, row_cmp, numbered}, proofs.RowOrder.{in_one_table, in_two_tables, behind_greater}}
use Rattle.lab_table.proofs.by_row.is_behind.Goals as goal

pub returns-then-eq : goal.returns-then-eq
returns-then-eq c =
    let own : Row = numbered c.args.table c.args.number in
    let row : Row = record { table = c.row.inside.table; id = c.row.inside.id } in
    ap (λ id. nat_lt id c.args.number) c.number.ensures.value ∙ sym (behind_greater c.args.number row.id) ∙ ap is_gt (sym (in_one_table own row (sym c.eq.ensures ∙ c.if-eq.true)))
    ∙ ap (λ r. is_gt (row_cmp own r)) c.row.view_is

pub returns-else-eq : goal.returns-else-eq
returns-else-eq c =
    let own : Row = numbered c.args.table c.args.number in
    let row : Row = record { table = c.row.inside.table; id = c.row.inside.id } in
    c.gt.ensures ∙ ap is_gt (sym (in_two_tables own row (sym c.eq.ensures ∙ c.if-eq.false))) ∙ ap (λ r. is_gt (row_cmp own r)) c.row.view_is
