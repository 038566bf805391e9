use Rattle.lab_picture.proofs.DrawnHeights.{draws_few, is_low}
use Rattle.lab_picture.proofs.laws.a_picture_is_low.Goals as goal

pub returns : goal.returns
returns c = record {
  drawn = λ h d n there. draws_few h d n there;
  height = λ h d. is_low h d;
}
