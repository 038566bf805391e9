use Rattle.std.{proofs.Common.{◌≡◌, drop}, specs.List.{list_any}}
use Rattle.lab_history.specs.VersionName.{new_states}
use Rattle.lab_drawing.specs.Rows.{is_named}
use Rattle.lab_picture.proofs.kept.writes_named.Given as goal

abbrev pub invariant-loop-row : goal.invariant-loop-row
invariant-loop-row l =
    list_any (λ row. is_named l.named row.0) (new_states (drop l.row-index l.row-items)) ≡ list_any (λ row. is_named l.named row.0) (new_states l.row-items)
