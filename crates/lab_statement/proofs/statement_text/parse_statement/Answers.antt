use Rattle.lab_statement.proofs.{Common.{List, sym, subst, ◌∙◌, Token, AreStatementTokens, IsStatementFault}, StatementText.{text_spells, stop_fault}, StatementRead.{spells_in, spells_once, fault_only, fault_read}}
use Rattle.lab_statement.proofs.statement_text.parse_statement.Goals as goal

pub returns-in-Ok-clause-found : goal.returns-in-Ok-clause-found
returns-in-Ok-clause-found c =
    let are = subst (λ (ts : List Token). AreStatementTokens c.args.text.now ts) (sym c.deref.ensures.value) c.in_ok-tokens.ensures in
    text_spells c.args.text.now c.if-text-gt-MAX_LINE_BYTES.false (sym c.is_ascii_code.ensures ∙ c.if-not-is_ascii_code.false) c.deref.result.now are c.in-Ok.statement c.in-Ok.ensures.found

pub returns-in-Ok-clause-only : goal.returns-in-Ok-clause-only
returns-in-Ok-clause-only c = λ s spells. spells_once c.args.text.now c.in-Ok.statement s (returns-in-Ok-clause-found c) spells

pub returns-in-Ok-clause-read : goal.returns-in-Ok-clause-read
returns-in-Ok-clause-read c = spells_in c.args.text.now c.in-Ok.statement (returns-in-Ok-clause-found c)

pub returns-clause-fault : goal.returns-clause-fault
returns-clause-fault c =
    let are = subst (λ (ts : List Token). AreStatementTokens c.args.text.now ts) (sym c.deref.ensures.value) c.in_ok-tokens.ensures in
    subst (IsStatementFault c.args.text.now) (sym c.at.ensures)
    (stop_fault c.args.text.now c.if-text-gt-MAX_LINE_BYTES.false (sym c.is_ascii_code.ensures ∙ c.if-not-is_ascii_code.false) c.deref.result.now are c.in-Err.refusal c.in-Err.ensures.first)

pub returns-clause-only : goal.returns-clause-only
returns-clause-only c = fault_only c.args.text.now c.at.result (returns-clause-fault c)

pub returns-clause-read : goal.returns-clause-read
returns-clause-read c = fault_read c.args.text.now c.at.result (returns-clause-fault c)
