use Rattle.lab_engine.{proofs.{Common.{refl, subst, sym}, WaitLayers.{least_round, no_round}}, specs.LeastWalk.{IsLeastRound}}
use Rattle.lab_engine.proofs.circle.shortest_circle.Goals as goal

pub returns-in_ok-circle_by-in-Some : goal.returns-in_ok-circle_by-in-Some
returns-in_ok-circle_by-in-Some c =
    let led = c.in_ok-circle_by-in-Some.ensures in
    subst (IsLeastRound c.args.waits.now c.args.session) (sym led.1)
    (least_round c.args.waits.now c.args.session c.layers_to-layers.result c.layers_to-layers.ensures c.in-Some.between led.0 c.in-Some.ensures.bound c.in-Some.ensures.first led.2)

pub returns-in-None : goal.returns-in-None
returns-in-None c = no_round c.args.waits.now c.args.session c.layers_to-layers.result c.layers_to-layers.ensures (c.in-None.ensures.none refl)
