use Rattle.lab_order.proofs.CirclesOnce.{circle_once}
use Rattle.lab_order.proofs.laws.back_circle_once.Goals as goal

pub returns : goal.returns
returns c = circle_once
