-- Tests for each fault that is at a row alone.
use Rattle.std.specs.Prelude.{ℕ, zero, suc, ◌+◌, Bool, false, not, ◌&&◌, ◌||◌, cond, Option, None, option_and_then, unwrap_or, List, [], ◌∷◌, length, slice_get}
use Rattle.std.specs.FinMap as map
use Rattle.lab_table.specs.Row.{Row}
use Rattle.lab_table.specs.Table.{State}
use Rattle.lab_history.specs.History.{History}
use Rattle.lab_history.specs.Version.{ops_of, outcome_of, installers, place_in, is_at, is_missing, left_state}
use Rattle.lab_history.specs.declared.operation.Op.{Op}
use Rattle.lab_deps.specs.Soundness.{has_committed, is_writer}
use Rattle.lab_deps.specs.Broken.{same_state}
use Rattle.lab_deps.specs.FirstOf.{first_entry, least_of}

-- the state that the installer at a place of a list leaves the row in, the place counted from 1; at 0 the initial state
abbrev pub state_after : History → Row → List ℕ → ℕ → State
state_after h row ns zero = map.get h.initial row
state_after h row ns (suc p) = unwrap_or (option_and_then (λ n. left_state h n row) (slice_get ns p)) None

-- whether the end table has a row in another state than its last installer left it
abbrev pub ends_other : History → Row → Bool
ends_other h row = not (same_state (map.get h.end_table row) (state_after h row (installers h row) (length (installers h row))))

-- whether an installer of a row at a place isn't a committed writer, or stands at an earlier place too
abbrev pub is_misplaced : History → Row → ℕ → ℕ → Bool
is_misplaced h row p n = not (is_writer h row n && is_at (place_in (installers h row) n) p)

-- whether one of these installers is, whose places are counted on from one
abbrev pub any_misplaced : History → Row → ℕ → List ℕ → Bool
any_misplaced h row p [] = false
any_misplaced h row p (n ∷ ns) = is_misplaced h row (p + 1) n || any_misplaced h row (p + 1) ns

-- whether one of a row's installers is
abbrev pub is_wrong : History → Row → Bool
is_wrong h row = any_misplaced h row 0 (installers h row)

-- the least row that an operation of a transaction writes and the transaction doesn't install
abbrev pub missing_at_op : History → ℕ → Op → Option Row
missing_at_op h n op = first_entry (is_missing h n) (map.entries op.writes)

-- the same of a transaction, where it has committed
abbrev pub missing_in_txn : History → ℕ → Option Row
missing_in_txn h n = cond (has_committed (outcome_of h n)) (least_of (missing_at_op h n) None (ops_of h n)) None
