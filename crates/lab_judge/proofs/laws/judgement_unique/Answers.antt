use Rattle.lab_judge.proofs.{OneJudgement.{one_judgement}, SpelledHistories.{one_of_file}}
use Rattle.lab_judge.proofs.laws.judgement_unique.Goals as goal

pub returns : goal.returns
returns c = record { history = one_judgement; file = one_of_file }
