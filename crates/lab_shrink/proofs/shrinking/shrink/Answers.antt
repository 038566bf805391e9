use Rattle.std.proofs.Common.{subst}
use Rattle.lab_shrink.{specs.Smaller.{IsSmaller}, proofs.SmallerStill.{smaller_still}}
use Rattle.lab_shrink.proofs.shrinking.shrink.Goals as goal

pub loop-round-preserved : goal.loop-round-preserved
loop-round-preserved g c =
    let next : IsSmaller c.smallest-current.result.now c.args.goal c.in-Some.part = rw c.in-Some.is at c.in_ok-part.ensures in
    smaller_still c.args.history.now c.args.goal c.loop-round.found c.in-Some.part c.loop-round.invariant
    (subst (λ h. IsSmaller h c.args.goal c.in-Some.part) c.smallest-current.ensures next)
