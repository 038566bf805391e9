use Rattle.lab_statement.proofs.{Common.{◌+◌, ◌∙◌, take_rest}, Remarks.{no_cut, cut_there}}
use Rattle.lab_statement.proofs.line.code_and_remark.Goals as goal

pub returns-in-None : goal.returns-in-None
returns-in-None c =
    let whole = no_cut c.args.line.now c.in-None.ensures in
    record { code = whole.0; remark = whole.1 }

pub returns-in-Some : goal.returns-in-Some
returns-in-Some c =
    let parts = cut_there c.args.line.now c.in-Some.place c.in-Some.ensures.1 c.in-Some.ensures.0.before in
    record { code = parts.0; remark = take_rest c.args.line.now (c.in-Some.place + 2) ∙ parts.1 }
