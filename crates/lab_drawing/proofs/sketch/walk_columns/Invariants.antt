use Rattle.std.proofs.Common.{◌≡◌, [], drop, map}
use Rattle.lab_drawing.specs.Sketch.{with_columns}
use Rattle.lab_drawing.proofs.sketch.walk_columns.Given as goal

abbrev pub invariant-loop-edge : goal.invariant-loop-edge
invariant-loop-edge l = with_columns l.columns.items (map (λ e. e.from) (drop l.edge-index l.walk)) ≡ with_columns [] (map (λ e. e.from) l.walk)
