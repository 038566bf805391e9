use Rattle.lab_compare.proofs.SameTold.{alike_Decides}
use Rattle.lab_compare.proofs.laws.alike_is_same.Goals as goal

pub returns : goal.returns
returns c = alike_Decides
