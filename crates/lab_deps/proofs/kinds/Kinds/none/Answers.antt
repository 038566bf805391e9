use Rattle.lab_deps.proofs.ExactArrows.{no_bit}
use Rattle.lab_deps.proofs.kinds.Kinds.none.Goals as goal

pub returns : goal.returns
returns c = no_bit
