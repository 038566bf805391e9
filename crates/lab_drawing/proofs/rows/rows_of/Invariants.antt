use Rattle.std.proofs.Common.{◌≡◌, ◌++◌, drop, map, filter}
use Rattle.std.specs.FinMap as finite
use Rattle.lab_drawing.specs.Rows.{is_of}
use Rattle.lab_drawing.proofs.rows.rows_of.Given as goal

abbrev pub invariant-loop-row : goal.invariant-loop-row
invariant-loop-row l =
    l.rows.items ++ filter (is_of l.walk) (map (λ entry. entry.0) (drop l.row-index (finite.entries l.history.installed)))
    ≡ filter (is_of l.walk) (map (λ entry. entry.0) (finite.entries l.history.installed))
