use Rattle.lab_picture.{specs.Svg.{arrows_drawn}, proofs.KeptRows.{at_both_ends}}
use Rattle.lab_picture.proofs.laws.each_arrow_has_its_row_at_both_ends.Goals as goal

pub returns : goal.returns
returns c = λ h d a there. at_both_ends h (arrows_drawn d) a there
