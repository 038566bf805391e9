use Rattle.std.proofs.{Common.{subst, IfSome}, lemmas.{Option.{IfSome_then}, Result.{IfOk-weaker}}}
use Rattle.lab_shrink.specs.Smaller.{IsSmaller}
use Rattle.lab_shrink_commands.{specs.Answer.{IsGoalOf}, proofs.SmallerFiles.{smaller_file_is}}
use Rattle.lab_shrink_commands.proofs.shrinking.smaller_file.Goals as goal

pub returns : goal.returns
returns g c =
    let shown = subst (IsGoalOf c.args.asked c.args.history.now) c.in-Some.is c.in_ok-goal.ensures in
    let smaller = subst (λ part. IfSome part (IsSmaller c.args.history.now c.in-Some.goal)) c.in-Some-2.is c.in_ok-part.ensures in
    IfOk-weaker c.file_of.result _ _
    (λ file is. IfSome_then file is (λ text held. smaller_file_is c.args.asked c.args.history.now c.in-Some.goal _ text.items shown smaller held)) c.file_of.ensures
