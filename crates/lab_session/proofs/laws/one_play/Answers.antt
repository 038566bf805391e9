use Rattle.lab_session.proofs.OnePlay.{one_play}
use Rattle.lab_session.proofs.laws.one_play.Goals as goal

pub returns : goal.returns
returns c = λ level setup lines log other h k. one_play level setup lines log other h k
