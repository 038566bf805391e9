use Rattle.std.proofs.{Common.{rules}, lemmas.Result.{IfOk-weaker}}
use Rattle.lab_chain_commands.proofs.judged_part.outcome_of.Goals as goal

pub returns-in-Ok : goal.returns-in-Ok
returns-in-Ok c = IfOk-weaker c.judged.result _ _ (λ outcome is. is _ c.in-Ok.ensures.held) c.judged.ensures

pub returns-in-Err : goal.returns-in-Err
returns-in-Err c = c.in-Err.ensures.fault (search rules)
