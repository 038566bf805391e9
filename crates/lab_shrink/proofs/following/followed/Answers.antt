use Rattle.lab_cut.specs.PartOf.{IsPartOf}
use Rattle.lab_shrink.proofs.SmallerStill.{left_still}
use Rattle.lab_shrink.proofs.following.followed.Goals as goal

pub returns-in-Some : goal.returns-in-Some
returns-in-Some c =
    let fewer : IsPartOf c.in-Some.fewer c.args.history.now = rw c.in-Some.is at c.in_ok-fewer.ensures.part in
    left_still c.args.history.now c.in-Some.fewer c.without_operations.result fewer c.without_operations.ensures.part
