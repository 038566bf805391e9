use Rattle.std.proofs.Common.{◌≡◌, ◌++◌, drop, flat_map}
use Rattle.lab_compare.specs.Alike.{explained_text}
use Rattle.lab_compare.proofs.alike.put_explanations.Given as goal

abbrev pub invariant-loop-one : goal.invariant-loop-one
invariant-loop-one l = l.out.items ++ flat_map (explained_text l.all) (drop l.one-index l.all) ≡ l.initial.out.items ++ flat_map (explained_text l.all) l.all
