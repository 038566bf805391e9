use Rattle.std.proofs.Common.{subst}
use Rattle.lab_shrink.{specs.Smaller.{IsSmaller}, proofs.SmallerStill.{smaller_still}}
use Rattle.lab_shrink.proofs.following.led.Goals as goal

pub loop-preserved : goal.loop-preserved
loop-preserved c =
    let next : IsSmaller c.smallest.result.now c.args.goal c.in-Some.part = rw c.in-Some.is at c.in_ok-part.ensures in
    smaller_still c.args.whole.now c.args.goal c.loop.found c.in-Some.part c.loop.invariant
    (subst (λ h. IsSmaller h c.args.goal c.in-Some.part) c.smallest.ensures next)
