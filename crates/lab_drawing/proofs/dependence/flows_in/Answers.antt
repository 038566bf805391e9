use Rattle.lab_drawing.proofs.KnownDependence.{flow_is}
use Rattle.lab_drawing.proofs.dependence.flows_in.Goals as goal

pub returns : goal.returns
returns c =
    flow_is c.args.history.now c.requires.sound c.args.net.now c.requires.all c.args.from c.args.to c.kinds.result c.kinds.ensures c.meets.result c.meets.ensures
