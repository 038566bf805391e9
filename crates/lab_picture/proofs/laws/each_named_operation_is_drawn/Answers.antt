use Rattle.lab_picture.proofs.DrawnEnds.{ends_are_drawn, marked_is_drawn}
use Rattle.lab_picture.proofs.laws.each_named_operation_is_drawn.Goals as goal

pub returns : goal.returns
returns c = record {
  ends = λ h d a there. ends_are_drawn h d a there;
  marked = λ h d spot is. marked_is_drawn h d spot is;
}
