use Rattle.std.proofs.Common.{[], sym, subst}
use Rattle.lab_deps.{specs.Asked.{AreAsked}, proofs.ReadyAnswers.{values_asked}}
use Rattle.lab_deps.proofs.asked.Asked.by_value.Goals as goal

pub invariant_of-result : goal.invariant_of-result
invariant_of-result c =
    let s = c.args.statement.now in
    let values = c.values-values.result.now in
    let by_value = c.answers_for_values.new.answers.items in
    subst (AreAsked s values by_value []) (sym c.new.ensures.items) (values_asked s c.args.pred.now c.requires.condition values by_value c.in_ok-answers_for_values.ensures)
