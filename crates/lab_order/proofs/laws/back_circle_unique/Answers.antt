use Rattle.lab_order.proofs.BackCircles.{one_of_graph}
use Rattle.lab_order.proofs.laws.back_circle_unique.Goals as goal

pub returns : goal.returns
returns c = one_of_graph
