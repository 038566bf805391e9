use Rattle.std.proofs.Common.{◌≡◌, drop}
use Rattle.lab_compare.specs.Alike.{first_alike}
use Rattle.lab_compare.proofs.alike.first_alike.Given as goal

abbrev pub invariant-loop-other : goal.invariant-loop-other
invariant-loop-other l = first_alike l.one (drop l.other-index l.all) ≡ first_alike l.one l.all
