use Rattle.std.proofs.Common.{◌≡◌, ◌++◌, drop, flat_map}
use Rattle.lab_judge.specs.ReportText.{point_text}
use Rattle.lab_judge.proofs.part_text.put_points.Given as goal

abbrev pub invariant-loop-point : goal.invariant-loop-point
invariant-loop-point l = l.out.items ++ flat_map point_text (drop l.point-index l.points) ≡ l.initial.out.items ++ flat_map point_text l.points
