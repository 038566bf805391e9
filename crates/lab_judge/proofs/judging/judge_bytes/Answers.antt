use Rattle.lab_judge.proofs.SpelledHistories.{held_yes, held_placed}
use Rattle.lab_judge.proofs.judging.judge_bytes.Goals as goal

pub returns-in-Ok-clause-yes : goal.returns-in-Ok-clause-yes
returns-in-Ok-clause-yes c = λ h held.
    held_yes c.args.bytes.now c.in-Ok.report h (record { history = _; held = c.in_ok-history.ensures.held; judgement = c.in-Ok.ensures.exact }) held

pub returns-in-Ok-clause-placed : goal.returns-in-Ok-clause-placed
returns-in-Ok-clause-placed c = λ h held.
    held_placed c.args.bytes.now c.in-Ok.report h (record { history = _; held = c.in_ok-history.ensures.held; judgement = c.in-Ok.ensures.exact }) held
