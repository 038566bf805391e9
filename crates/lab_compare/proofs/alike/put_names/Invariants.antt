use Rattle.std.proofs.Common.{◌≡◌, ◌++◌, drop, flat_map}
use Rattle.lab_compare.specs.Alike.{name_if}
use Rattle.lab_compare.proofs.alike.put_names.Given as goal

abbrev pub invariant-loop-other : goal.invariant-loop-other
invariant-loop-other l = l.out.items ++ flat_map (name_if l.one) (drop l.other-index l.all) ≡ l.initial.out.items ++ flat_map (name_if l.one) l.all
