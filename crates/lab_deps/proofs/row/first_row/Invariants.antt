use Rattle.std.proofs.Common.{◌≡◌, Bool, drop}
use Rattle.lab_table.specs.Row.{Row}
use Rattle.lab_deps.specs.FirstOf.{first_entry}
use Rattle.lab_deps.proofs.row.first_row.Given as goal

-- the row is found among the entries that are left as among all
abbrev pub invariant-loop-entry : goal.invariant-loop-entry
invariant-loop-entry g l =
    (passes : Row → Bool) → ((row : Row) (b : Bool) → goal.F-post g l.test row b → b ≡ passes row) → first_entry passes (drop l.entry-index l.entries) ≡ first_entry passes l.entries
