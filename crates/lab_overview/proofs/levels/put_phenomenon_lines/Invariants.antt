use Rattle.std.proofs.Common.{◌≡◌, ◌++◌, drop, flat_map}
use Rattle.lab_overview.specs.Levels.{phenomenon_line}
use Rattle.lab_overview.proofs.levels.put_phenomenon_lines.Given as goal

abbrev pub invariant-loop-phenomenon : goal.invariant-loop-phenomenon
invariant-loop-phenomenon l = l.out.items ++ flat_map (phenomenon_line l.history l.report) (drop l.phenomenon-index l.phenomena) ≡ l.initial.out.items ++ flat_map (phenomenon_line l.history l.report) l.phenomena
