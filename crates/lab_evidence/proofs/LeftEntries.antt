-- What an operation left, as entries of a cell.
use Rattle.std.proofs.Common.{◌≡◌, List, [], ◌∷◌, map, refl, ap}
use Rattle.lab_table.specs.Row.{Row}
use Rattle.lab_history.specs.{VersionName.{new_states}, declared.operation.State.{State as Left}}
use Rattle.lab_evidence.specs.Cells.{left_entry, written_entry}

pub left_are_written : (states : List (Row × Left)) → map left_entry states ≡ map written_entry (new_states states)
left_are_written [] = refl
left_are_written (e ∷ es) = ap (λ l. left_entry e ∷ l) (left_are_written es)
