use Rattle.lab_deps.specs.Turns.{AreKept}
use Rattle.lab_deps.proofs.kept.kept_of.Given as goal

abbrev pub invariant-loop-index : goal.invariant-loop-index
invariant-loop-index l = AreKept l.values.exact l.before l.values.others.items l.versions l.kept.items
