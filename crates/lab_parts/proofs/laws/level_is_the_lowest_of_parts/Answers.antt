use Rattle.lab_parts.proofs.WholeFree.{whole_level}
use Rattle.lab_parts.proofs.laws.level_is_the_lowest_of_parts.Goals as goal

pub returns : goal.returns
returns c = λ first others sound all fits is each. whole_level first others sound all fits is each
