use Rattle.std.{proofs.Common.{◌≡◌, drop}, specs.List.{list_any}}
use Rattle.std.specs.FinMap as finite
use Rattle.lab_drawing.specs.Rows.{is_named}
use Rattle.lab_picture.proofs.kept.lists_named.Given as goal

abbrev pub invariant-loop-row : goal.invariant-loop-row
invariant-loop-row l = list_any (λ row. is_named l.named row.0) (drop l.row-index (finite.entries l.rows)) ≡ list_any (λ row. is_named l.named row.0) (finite.entries l.rows)
