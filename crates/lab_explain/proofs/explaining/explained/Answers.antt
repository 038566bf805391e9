use Rattle.std.proofs.lemmas.Result.{IfOk-weaker}
use Rattle.lab_explain.proofs.explaining.explained.Goals as goal

pub returns : goal.returns
returns c =
    IfOk-weaker c.explanation.result _ _
    (λ text is. record { report = c.in-Ok.report; judgement = c.in-Ok.ensures.exact; text_is = is })
    c.explanation.ensures
