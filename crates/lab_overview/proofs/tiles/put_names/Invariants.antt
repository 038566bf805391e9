use Rattle.std.proofs.Common.{◌≡◌, ◌++◌, drop, flat_map}
use Rattle.lab_overview.specs.Head.{present_name}
use Rattle.lab_overview.proofs.tiles.put_names.Given as goal

abbrev pub invariant-loop-phenomenon : goal.invariant-loop-phenomenon
invariant-loop-phenomenon l = l.out.items ++ flat_map (present_name l.report) (drop l.phenomenon-index l.phenomena) ≡ l.initial.out.items ++ flat_map (present_name l.report) l.phenomena
