use Rattle.lab_drawing.proofs.DrawnWalks.{is_drawn, is_write_drawn}
use Rattle.lab_drawing.proofs.laws.each_dependency_of_a_walk_is_drawn.Goals as goal

pub returns : goal.returns
returns c = record {
  drawn = λ h report asked walk exact is e there. is_drawn h report walk exact e there asked is;
  writes = λ h report walk exact is e there. is_write_drawn h report walk exact e there is;
}
