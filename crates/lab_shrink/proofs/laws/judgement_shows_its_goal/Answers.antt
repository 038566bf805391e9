use Rattle.lab_shrink.proofs.GoalsShown.{judged_goal}
use Rattle.lab_shrink.proofs.laws.judgement_shows_its_goal.Goals as goal

pub returns : goal.returns
returns c = λ h report asked aim exact is. judged_goal h report asked aim exact is
