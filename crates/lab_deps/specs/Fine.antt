-- Tests of a version that an operation sees, each of which excludes several kinds of faults at once.
use Rattle.std.specs.Prelude.{◌≡◌, ℕ, ◌==◌, nat_lt, Bool, true, not, ◌&&◌, cond, Some, is_some}
use Rattle.std.specs.FinMap as map
use Rattle.lab_table.specs.Row.{Row, row_cmp}
use Rattle.lab_history.specs.History.{History}
use Rattle.lab_history.specs.Version.{ops_of, outcome_of, version_state, last_write, installers, place_in, is_at}
use Rattle.lab_history.specs.declared.operation.VersionName.{VersionName}
use Rattle.lab_history.specs.declared.operation.VersionName.TheVariants.{Initial, Of}
use Rattle.lab_deps.specs.Soundness.{has_committed}
use Rattle.lab_deps.specs.Broken.{precedes}

-- whether an operation of a committed transaction is the transaction's last that writes a row
abbrev pub is_last : History → ℕ → ℕ → Row → Bool
is_last h m j row = has_committed (outcome_of h m) && is_at (last_write (ops_of h m) row) j

-- whether a transaction's operation writes a row, and comes before one of this number
abbrev pub is_own : History → ℕ → ℕ → ℕ → Row → Bool
is_own h m j k row = nat_lt j k && is_some (version_state h row (Of m j))

-- whether a transaction doesn't stand before another one among a row's installers
abbrev pub is_clear : History → ℕ → ℕ → Row → Bool
is_clear h n m row = not (precedes (place_in (installers h row) n) (place_in (installers h row) m))

-- whether an operation of a transaction may see a version: its own of before, or another's last that doesn't stand after its own
abbrev pub is_fine : History → ℕ → ℕ → Row → VersionName → Bool
is_fine h n k row Initial = true
is_fine h n k row (Of m j) = cond (m == n) (is_own h m j k row) (is_last h m j row && is_clear h n m row)

-- whether it may not
abbrev pub is_unfine : History → ℕ → ℕ → Row → VersionName → Bool
is_unfine h n k row v = not (is_fine h n k row v)

-- each version of a view is one that an operation may see
abbrev pub IsFineView : History → ℕ → ℕ → map.FinMap row_cmp VersionName → Type 0
IsFineView h n k view = (row : Row) (v : VersionName) → map.get view row ≡ Some v → is_fine h n k row v ≡ true
