use Rattle.std.proofs.{Common.{subst}, lemmas.Result.{IfOk-weaker}}
use Rattle.lab_judge.{specs.Judgement.{IsExactJudgement}, proofs.{ExactJudgements.{yes_where, placed_where}, PromisedReports.{recording_promised}}}
use Rattle.lab_judge.proofs.judging.judge_recording.Goals as goal

pub returns-clause-promised : goal.returns-clause-promised
returns-clause-promised c =
    IfOk-weaker c.judge.result _ _ (λ report exact. recording_promised c.args.recording.now report c.history.ensures.sound
    (subst (λ h. IsExactJudgement h report) c.history.ensures.value exact)) c.judge.ensures.exact

pub returns-clause-yes : goal.returns-clause-yes
returns-clause-yes c =
    IfOk-weaker c.judge.result _ _ (λ report exact. yes_where c.args.recording.now.history report (subst (λ h. IsExactJudgement h report) c.history.ensures.value exact)) c.judge.ensures.exact

pub returns-clause-placed : goal.returns-clause-placed
returns-clause-placed c =
    IfOk-weaker c.judge.result _ _ (λ report exact. placed_where c.args.recording.now.history report (subst (λ h. IsExactJudgement h report) c.history.ensures.value exact)) c.judge.ensures.exact
