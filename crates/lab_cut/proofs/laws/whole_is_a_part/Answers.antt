use Rattle.lab_cut.proofs.PartLaws.{whole_part}
use Rattle.lab_cut.proofs.laws.whole_is_a_part.Goals as goal

pub returns : goal.returns
returns c = whole_part
