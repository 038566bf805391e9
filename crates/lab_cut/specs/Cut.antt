-- A history without the operations that a mask drops: which installers go, and with which state a row then begins and
-- ends.
use Rattle.std.specs.Prelude.{ℕ, ◌==◌, ◌&&◌, Bool, not, cond, nat_eq, ◌-◌, Option, Some, None, is_some, is_none, option_map, unwrap_or, option_and_then, List, [], ◌∷◌, map, filter, length, drop, slice_get}
use Rattle.std.specs.List.{cons_option}
use Rattle.std.specs.Option.{option_eq}
use Rattle.std.specs.FinMap as rows
use Rattle.lab_table.specs.Row.{Row}
use Rattle.lab_table.specs.Table.{State, Table, Writes, overwritten}
use Rattle.lab_history.specs.History.{History}
use Rattle.lab_history.specs.Installed.{Installed}
use Rattle.lab_history.specs.Version.{ops_of, last_write, version_state}
use Rattle.lab_history.specs.VersionName.{View}
use Rattle.lab_history.specs.declared.operation.Op.{Op}
use Rattle.lab_history.specs.declared.operation.VersionName.{VersionName}
use Rattle.lab_history.specs.declared.operation.VersionName.TheVariants.{Initial, Of}
use Rattle.lab_history.specs.declared.transaction.Outcome.{Outcome}
use Rattle.lab_history.specs.declared.transaction.Txn.{Txn}
use Rattle.lab_cut.specs.Left.{left_of}
use Rattle.lab_cut.specs.Kept.{number_of, last_left, last_given, all_kept}
use Rattle.lab_cut.specs.MadeEntries.{made_entries}
use Rattle.lab_cut.specs.declared.kept.Kept.{Kept}

-- the number of an operation where it had another: one that goes has none, and one that isn't there keeps its own
abbrev pub number_after : ℕ → Option ℕ → Option ℕ
number_after k None = Some k
number_after k (Some new) = cond (new == 0) None (Some new)

-- a list of installers, if it has one
abbrev pub if_any : List ℕ → Option (List ℕ)
if_any [] = None
if_any (n ∷ ns) = Some (n ∷ ns)

-- the last of the first that pass a test
abbrev pub last_of_front : (ℕ → Bool) → Option ℕ → List ℕ → Option ℕ
last_of_front test last [] = last
last_of_front test last (n ∷ ns) = cond (test n) (last_of_front test (Some n) ns) last

-- a transaction with these operations, if it has one
abbrev pub txn_of : ℕ → Outcome → List Op → Option Txn
txn_of n outcome [] = None
txn_of n outcome (op ∷ ops) = Some (record { no = n; outcome = outcome; ops = op ∷ ops })

-- the state of a row by an operation of a transaction, absent where there is none
abbrev pub state_by : History → Row → ℕ → Option ℕ → State
state_by h row n k = unwrap_or (option_and_then (λ k. version_state h row (Of n k)) k) None

-- What of each transaction is kept.
module _ (kept : ℕ → Option Kept) where
  -- a version under its new name, unless its operation goes
  abbrev pub renamed : VersionName → Option VersionName
  renamed Initial = Some Initial
  renamed (Of n k) = option_map (λ new. Of n new) (number_after k (number_of kept n k))

  abbrev pub left_view : View → View
  left_view view = rows.from_sorted (made_entries (λ row version. renamed version) (rows.entries view))

  abbrev pub left_op : Op → Op
  left_op op = record { statement = op.statement; view = left_view op.view; rows = op.rows; writes = op.writes }

  -- the transactions with the operations that a mask keeps
  abbrev pub left_txns : List Bool → List Txn → List Txn
  left_txns mask [] = []
  left_txns mask (t ∷ ts) = cons_option (txn_of t.no t.outcome (map left_op (left_of mask t.ops))) (left_txns (drop (length t.ops) mask) ts)

  -- Of the whole.
  module _ (h : History) where
    -- whether a transaction goes from the installers of a row: it wrote the row and doesn't any more
    abbrev pub goes : Row → ℕ → Bool
    goes row n = is_none (last_left kept n row) && is_some (last_write (ops_of h n) row)

    -- those that stay
    abbrev pub staying : Row → List ℕ → List ℕ
    staying row ns = filter (λ n. not (goes row n)) ns

    abbrev pub left_list : Row → List ℕ → Option (List ℕ)
    left_list row ns = if_any (staying row ns)

    abbrev pub left_installed : Installed
    left_installed = rows.from_sorted (made_entries left_list (rows.entries h.installed))

    -- the last of some that stays, else one before them
    abbrev pub last_staying : Row → Option ℕ → List ℕ → Option ℕ
    last_staying row last [] = last
    last_staying row last (n ∷ ns) = last_staying row (cond (goes row n) last (Some n)) ns

    -- the state that the last of a row's first installers left, which go
    abbrev pub base : Row → List ℕ → Option State
    base row ns = option_map (λ n. state_by h row n (last_write (ops_of h n) row)) (last_of_front (goes row) None ns)

    -- the rows whose first installers go, with those states
    abbrev pub bases : Writes
    bases = rows.from_sorted (made_entries base (rows.entries h.installed))

    abbrev pub left_initial : Table
    left_initial = overwritten bases h.initial

    -- the state of a row after the last installer that stays, else its first state
    abbrev pub end_after : Row → Option ℕ → State
    end_after row None = rows.get left_initial row
    end_after row (Some n) = state_by h row n (last_left kept n row)

    -- the new state of a row in the end, by its last installer, unless the last version that this left is kept
    abbrev pub end_by : Row → List ℕ → Option ℕ → Option State
    end_by row ns None = None
    end_by row ns (Some n) = cond (option_eq nat_eq (last_left kept n row) (last_write (ops_of h n) row)) None (Some (end_after row (last_staying row None ns)))

    abbrev pub new_end : Row → List ℕ → Option State
    new_end row ns = end_by row ns (slice_get ns (length ns - 1))

    abbrev pub new_ends : Writes
    new_ends = rows.from_sorted (made_entries new_end (rows.entries h.installed))

    abbrev pub left_end : Table
    left_end = overwritten new_ends h.end_table

-- the history without the operations that a mask doesn't keep
abbrev pub cut : List Bool → History → History
cut mask h =
    let kept = last_given None (all_kept mask h.txns) in
    record { initial = left_initial kept h; txns = left_txns kept mask h.txns; installed = left_installed kept h; end_table = left_end kept h }
