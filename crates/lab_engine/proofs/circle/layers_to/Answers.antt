use Rattle.lab_engine.proofs.{Common.{arith, get_or, get_or_default_zero, length, length-set, ◌-◌, ◌<◌, ◌∙◌}, WaitLayers.{layers_first, layers_more}}
use Rattle.lab_engine.proofs.circle.layers_to.Goals as goal

pub loop-between-init : goal.loop-between-init
loop-between-init c = record {
  some = omega arith;
  size = cc;
  layers = layers_first c.args.waits.now c.args.goal c.of.result c.waiters-layers.result c.of.ensures c.waiters-layers.ensures;
}

pub loop-between-preserved : goal.loop-between-preserved
loop-between-preserved c =
    let within : c.loop-between.between - 1 < length c.loop-between.layers = omega (arith, c.loop-between.invariant.size, c.loop-between.invariant.some, c.loop-between-test.true) in
    record {
      some = omega arith;
      size = length-set c.loop-between.layers c.loop-between.between c.waiters.result ∙ c.loop-between.invariant.size;
      layers = layers_more c.args.waits.now c.args.goal c.loop-between.layers c.loop-between.between (get_or c.loop-between.layers (c.loop-between.between - 1) c.index-layers-between.result)
          c.waiters.result c.loop-between.invariant.size c.loop-between.invariant.some c.loop-between-test.true c.loop-between.invariant.layers
          (get_or_default_zero c.loop-between.layers (c.loop-between.between - 1) c.index-layers-between.result within) c.waiters.ensures;
    }
