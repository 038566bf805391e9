use Rattle.std.proofs.Common.{◌≡◌, Bool, drop}
use Rattle.lab_table.specs.Row.{Row}
use Rattle.lab_deps.specs.FirstOf.{first_value}
use Rattle.lab_deps.proofs.row.first_entry.Given as goal

-- the row is found among the entries that are left as among all
abbrev pub invariant-loop-entry : goal.invariant-loop-entry
invariant-loop-entry g l =
    (passes : Row → _ → Bool) → ((row : Row) (value : _) (b : Bool) → goal.F-post g l.test row value b → b ≡ passes row value)
    → first_value passes (drop l.entry-index l.entries) ≡ first_value passes l.entries
