use Rattle.lab_order.{specs.Path.{IsShortestPath}, proofs.Least.{one_least}}
use Rattle.lab_order.proofs.laws.least_path_unique.Goals as goal

pub returns : goal.returns
returns c = λ graph from to. one_least (IsShortestPath graph from to)
