use Rattle.std.{specs.Prelude.{Some}, proofs.lemmas.Result.{IfOk-weaker}}
use Rattle.lab_chain_commands.proofs.judged_part.outcome_in.Goals as goal

pub returns-in-Some-true-Some : goal.returns-in-Some-true-Some
returns-in-Some-true-Some c = IfOk-weaker c.outcome_of.result _ _ (λ outcome is. (Some _, is)) c.outcome_of.ensures
