use Rattle.std.proofs.Common.{◌≡◌, ◌++◌, drop}
use Rattle.lab_table.specs.Row.{Row}
use Rattle.lab_history.specs.declared.operation.VersionName.{VersionName}
use Rattle.lab_cut.specs.{Cut.{renamed}, Kept.{kept_in}, MadeEntries.{made_entries}}
use Rattle.lab_cut.proofs.moved.left_entries.Given as goal

abbrev pub invariant-loop-row : goal.invariant-loop-row
invariant-loop-row l =
    let make = λ (row : Row) (version : VersionName). renamed (kept_in l.moves) version in
    l.left.items ++ made_entries make (drop l.row-index l.entries) ≡ made_entries make l.entries
