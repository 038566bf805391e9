use Rattle.lab_script.proofs.{Common.{Some, None, sym, ap, subst, ◌∙◌, IfErr, OnOk, err_from_is_err_and, on_ok_weaker, Option, Script, LineSpells, IsFaultAt, ScriptFaultKind, first_fault}, ScriptLines.{tokenless_line, tokens_faulty, tokens_line}}
use Rattle.lab_script.proofs.parse.read_line.Goals as goal

pub returns-then-is_empty-clause-found : goal.returns-then-is_empty-clause-found
returns-then-is_empty-clause-found c =
    tokenless_line c.args.number c.args.line.now (sym c.is_over.ensures ∙ c.if-is_over.false) c.code_and_remark.ensures.code c.code_and_remark.ensures.remark
    (sym c.is_ascii_code.ensures ∙ c.if-not-is_ascii_code.false) (c.as_slice-tokens.ensures.value ∙ c.in_ok-tokens_into.ensures) c.args.script.now (sym c.is_empty.ensures ∙ c.if-is_empty.true)

pub returns-in_err-setup_script-in-None-clause-fault : goal.returns-in_err-setup_script-in-None-clause-fault
returns-in_err-setup_script-in-None-clause-fault c =
    let p = err_from_is_err_and c.from_residual-in_err-setup_script-in-None.result c.from_residual-in_err-setup_script-in-None.ensures.1 in
    let same = tokens_faulty c.args.number c.args.line.now (sym c.is_over.ensures ∙ c.if-is_over.false) c.code_and_remark.ensures.code c.code_and_remark.ensures.remark
    (sym c.is_ascii_code.ensures ∙ c.if-not-is_ascii_code.false) (c.as_slice-tokens.ensures.value ∙ c.in_ok-tokens_into.ensures) (sym c.is_empty.ensures ∙ c.if-is_empty.false) None in
    rw (p.1, p.2, c.in-None.is, same) (c.in_err-setup_script-in-None.ensures.fault c.code_and_remark.result.1.now)

pub returns-in_ok-setup_script-in-None-clause-found : goal.returns-in_ok-setup_script-in-None-clause-found
returns-in_ok-setup_script-in-None-clause-found c =
    subst (λ (before : Option Script). LineSpells c.args.number c.args.line.now before (Some c.in_ok-setup_script-in-None.field-0)) (sym c.in-None.is)
    (tokens_line c.args.number c.args.line.now (sym c.is_over.ensures ∙ c.if-is_over.false) c.code_and_remark.ensures.code c.code_and_remark.ensures.remark
    (sym c.is_ascii_code.ensures ∙ c.if-not-is_ascii_code.false) (c.as_slice-tokens.ensures.value ∙ c.in_ok-tokens_into.ensures) None _
    (c.in_ok-setup_script-in-None.ensures.found c.code_and_remark.result.1.now))

pub returns-in-Some-clause-found : goal.returns-in-Some-clause-found
returns-in-Some-clause-found c =
    subst (λ (before : Option Script). OnOk c.add_commands.result (LineSpells c.args.number c.args.line.now before (Some c.add_commands.new.script))) (sym c.in-Some.is)
    (on_ok_weaker c.add_commands.result
    (tokens_line c.args.number c.args.line.now (sym c.is_over.ensures ∙ c.if-is_over.false) c.code_and_remark.ensures.code c.code_and_remark.ensures.remark
    (sym c.is_ascii_code.ensures ∙ c.if-not-is_ascii_code.false) (c.as_slice-tokens.ensures.value ∙ c.in_ok-tokens_into.ensures) (Some c.in-Some.script) _) c.add_commands.ensures.found)

pub returns-in-Some-clause-fault : goal.returns-in-Some-clause-fault
returns-in-Some-clause-fault c =
    let same = tokens_faulty c.args.number c.args.line.now (sym c.is_over.ensures ∙ c.if-is_over.false) c.code_and_remark.ensures.code c.code_and_remark.ensures.remark
    (sym c.is_ascii_code.ensures ∙ c.if-not-is_ascii_code.false) (c.as_slice-tokens.ensures.value ∙ c.in_ok-tokens_into.ensures)
    (sym c.is_empty.ensures ∙ c.if-is_empty.false) (Some c.in-Some.script) in
    subst (λ (found : Option ScriptFaultKind). IfErr c.add_commands.result (IsFaultAt c.args.number found))
    (sym (ap (first_fault c.args.number c.args.line.now) c.in-Some.is ∙ same)) c.add_commands.ensures.fault
