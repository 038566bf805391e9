use Rattle.std.proofs.lemmas.Result.{IfOk-weaker}
use Rattle.lab_judge.proofs.ExactJudgements.{yes_where, placed_where}
use Rattle.lab_judge.proofs.judging.judge.Goals as goal

pub returns-in-Ok-clause-yes : goal.returns-in-Ok-clause-yes
returns-in-Ok-clause-yes c = IfOk-weaker c.judge_sound.result _ _ (λ report exact. yes_where c.args.history.now report exact) c.judge_sound.ensures

pub returns-in-Ok-clause-placed : goal.returns-in-Ok-clause-placed
returns-in-Ok-clause-placed c = IfOk-weaker c.judge_sound.result _ _ (λ report exact. placed_where c.args.history.now report exact) c.judge_sound.ensures

pub returns-in-Err-Fault-clause-yes : goal.returns-in-Err-Fault-clause-yes
returns-in-Err-Fault-clause-yes c = IfOk-weaker c.judge_unsound.result _ _ (λ report exact. yes_where c.args.history.now report exact) c.judge_unsound.ensures

pub returns-in-Err-Fault-clause-placed : goal.returns-in-Err-Fault-clause-placed
returns-in-Err-Fault-clause-placed c = IfOk-weaker c.judge_unsound.result _ _ (λ report exact. placed_where c.args.history.now report exact) c.judge_unsound.ensures
