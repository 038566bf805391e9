use Rattle.lab_script.proofs.{Common.{◌<◌, [], length, ap, ◌∙◌, arith, with_rows, setup_tables, line_table}, FewTables.{all_longer}}
use Rattle.lab_script.proofs.print.has_few_tables.Goals as goal

pub returns-else-add_all : goal.returns-else-add_all
returns-else-add_all c =
    let rows = ap length (ap (λ names. with_rows names c.rows.result.now) c.new-tables.ensures ∙ ap (with_rows []) c.rows.ensures) in
    let over : 4 < length (with_rows c.new-tables.result.names c.rows.result.now) = c.if-add_all.ensures in
    let more = all_longer line_table (setup_tables c.args.script.now.setup) c.args.script.now.lines in
    rw c.if-add_all.false (omega (arith, over, rows, more))
