use Rattle.lab_explain.proofs.ShortTexts.{is_short}
use Rattle.lab_explain.proofs.laws.explanation_is_short.Goals as goal

pub returns : goal.returns
returns c = λ h report asked. is_short h report asked
