use Rattle.lab_deps.{specs.{KindSets.{among}, declared.kinds.TheConstants.Kinds.{ALL}}, proofs.NamedKinds.{all_has}}
use Rattle.lab_picture.proofs.LeastOfPairs.{least_of_listed}
use Rattle.lab_picture.proofs.forward.least_of.Goals as goal

pub returns : goal.returns
returns c =
    let l = c.least.ensures in
    λ h exact. least_of_listed h c.args.edges.now.edges c.args.pair (among ALL) c.least.result all_has exact l.found l.from l.to l.least l.none
