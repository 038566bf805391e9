use Rattle.lab_engine.{proofs.Common.{length, ◌≡◌, ◌≤◌}, specs.LeastWalk.{AreLayers}}
use Rattle.lab_engine.proofs.circle.layers_to.Given as goal

-- the layers so far
abbrev pub invariant-loop-between : goal.invariant-loop-between
invariant-loop-between l = record {
  some : 1 ≤ l.between;
  size : length l.layers ≡ 9;
  layers : AreLayers l.waits l.fn.goal l.between l.layers;
}
