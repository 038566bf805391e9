use Rattle.std.proofs.Common.{◌≡◌, map, take}
use Rattle.lab_judge.specs.PlaceGraphs.{point_at}
use Rattle.lab_judge.proofs.placing.points_of.Given as goal

-- the points so far
abbrev pub invariant-loop-node : goal.invariant-loop-node
invariant-loop-node l = l.points.items ≡ map (point_at l.net.numbers) (take l.node-index l.circle)
