use Rattle.lab_script.proofs.{Common.{sym, ap, ◌∙◌, subst, List, ℤ, Row, TranscriptView}, StatementLines.{line_of_rows, line_of_fault, with_rows, with_fault}}
use Rattle.lab_table.specs.{Running.{Gives}, Statement.{run}}
use Rattle.lab_script.proofs.serial.run_statement.Goals as goal

pub returns-in-Ok-clause-text : goal.returns-in-Ok-clause-text
returns-in-Ok-clause-text c =
    line_of_rows c.args.statement.now c.args.table.now c.run.new.self c.deref.result.now _ _ _ (ap (λ (view : TranscriptView). view.text) c.output.view_is ∙ c.if-not-spell_statement.ensures.text) c.if-spell_rows.ensures
    (subst (λ (rows : List (Row × ℤ)). Gives (run c.args.statement.now c.args.table.now) rows c.run.new.self) (sym c.deref.ensures.value) c.in-Ok.ensures.ok)

pub returns-in-Ok-clause-table : goal.returns-in-Ok-clause-table
returns-in-Ok-clause-table c = with_rows c.args.statement.now c.args.table.now c.run.new.self c.in-Ok.rows.items c.in-Ok.ensures.ok

pub returns-in-Err-clause-text : goal.returns-in-Err-clause-text
returns-in-Err-clause-text c =
    line_of_fault c.args.statement.now c.args.table.now c.in-Err.fault _ _ _ (ap (λ (view : TranscriptView). view.text) c.output.view_is ∙ c.if-not-spell_statement.ensures.text) c.if-spell_fault.ensures.text
    c.in-Err.ensures.fault c.if-spell_fault.ensures.refused

pub returns-in-Err-clause-table : goal.returns-in-Err-clause-table
returns-in-Err-clause-table c = with_fault c.args.statement.now c.args.table.now c.in-Err.fault c.in-Err.ensures.fault c.if-spell_fault.ensures.refused
