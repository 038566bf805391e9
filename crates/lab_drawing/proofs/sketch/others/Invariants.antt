use Rattle.std.{proofs.Common.{◌≡◌, [], drop, filter, flat_map}, specs.{Prelude.{not, ◌==◌}, List.{list_any}}}
use Rattle.lab_drawing.specs.Sketch.{with_columns, seen_writers}
use Rattle.lab_drawing.proofs.sketch.others.Given as goal

abbrev pub invariant-loop-arrow : goal.invariant-loop-arrow
invariant-loop-arrow l =
    with_columns l.found.items (filter (λ n. not (list_any (λ m. m == n) l.columns)) (flat_map (seen_writers l.history) (drop l.arrow-index l.arrows)))
    ≡ with_columns [] (filter (λ n. not (list_any (λ m. m == n) l.columns)) (flat_map (seen_writers l.history) l.arrows))
