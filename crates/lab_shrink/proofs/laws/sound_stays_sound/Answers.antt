use Rattle.lab_shrink.proofs.GoalsShown.{stays_sound}
use Rattle.lab_shrink.proofs.laws.sound_stays_sound.Goals as goal

pub returns : goal.returns
returns c = λ h part report asked aim exact is sound shows. stays_sound h part report asked aim exact is sound shows
