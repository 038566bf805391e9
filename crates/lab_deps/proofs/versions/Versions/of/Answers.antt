use Rattle.std.proofs.Common.{subst}
use Rattle.lab_deps.specs.Turns.{AreKept}
use Rattle.lab_deps.proofs.versions.Versions.of.Goals as goal

pub invariant_of-result : goal.invariant_of-result
invariant_of-result c = subst (λ vs. AreKept c.in_ok-values.values.exact c.get-before.result c.in_ok-values.values.others.items vs c.in_ok-kept.kept.items) c.deref-2.ensures.value c.in_ok-kept.ensures
