use Rattle.lab_parts.proofs.WholeSound.{whole_sound}
use Rattle.lab_parts.proofs.laws.parts_are_sound_together.Goals as goal

pub returns : goal.returns
returns c = whole_sound
