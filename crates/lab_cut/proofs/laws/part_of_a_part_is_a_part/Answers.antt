use Rattle.lab_cut.proofs.PartLaws.{part_through}
use Rattle.lab_cut.proofs.laws.part_of_a_part_is_a_part.Goals as goal

pub returns : goal.returns
returns c = part_through
