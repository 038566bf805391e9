use Rattle.lab_drawing.proofs.KnownDependence.{passing_is}
use Rattle.lab_drawing.proofs.dependence.passes_in.Goals as goal

pub returns : goal.returns
returns c =
    passing_is c.args.history.now c.requires.sound c.args.net.now c.requires.all c.args.from c.args.to c.kinds.result c.kinds.ensures c.meets.result c.meets.ensures
