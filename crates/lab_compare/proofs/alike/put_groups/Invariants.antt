use Rattle.std.proofs.Common.{◌≡◌, ◌++◌, drop, flat_map}
use Rattle.lab_compare.specs.Alike.{led_text}
use Rattle.lab_compare.proofs.alike.put_groups.Given as goal

abbrev pub invariant-loop-one : goal.invariant-loop-one
invariant-loop-one l = l.out.items ++ flat_map (led_text l.mark l.all) (drop l.one-index l.all) ≡ l.initial.out.items ++ flat_map (led_text l.mark l.all) l.all
