-- The history of a run that was recorded in parts: the histories of the parts, joined.
--
-- A part is a history that was recorded while no transaction was open at its beginning and its end. What a statement
-- sees at the initial version of its part is, in the run, the last version that an earlier part installed.
use Rattle.std.specs.Prelude.{◌≡◌, ℕ, zero, suc, ◌+◌, max, ◌++◌, Option, Some, None, unwrap_or, List, [], ◌∷◌, map, ⊤}
use Rattle.std.specs.List.{last_or}
use Rattle.std.specs.FinMap as rows
use Rattle.lab_table.specs.Row.{Row}
use Rattle.lab_history.specs.History.{History}
use Rattle.lab_history.specs.Installed.{Installed}
use Rattle.lab_history.specs.Version.{ops_of, last_write, installers}
use Rattle.lab_history.specs.VersionName.{View}
use Rattle.lab_history.specs.declared.transaction.Txn.{Txn}
use Rattle.lab_history.specs.declared.operation.Op.{Op}
use Rattle.lab_history.specs.declared.operation.VersionName.{VersionName}
use Rattle.lab_history.specs.declared.operation.VersionName.TheVariants.{Initial, Of}

-- the least number above those of all transactions
abbrev pub above_all : List Txn → ℕ
above_all [] = 0
above_all (t ∷ ts) = max (suc t.no) (above_all ts)

-- What a part becomes that comes behind this one.
module _ (before : History) where
  -- the number of one of its transactions in the run
  abbrev pub moved : ℕ → ℕ
  moved n = above_all before.txns + n

  -- the version that a transaction left, if there is one
  abbrev pub left_version : Row → Option ℕ → VersionName
  left_version row None = Initial
  left_version row (Some n) = Of n (unwrap_or (last_write (ops_of before n) row) 0)

  -- the version that a row had when it began
  abbrev pub seam_version : Row → VersionName
  seam_version row = left_version row (last_or None (installers before row))

  -- a version that it names
  abbrev pub moved_version : Row → VersionName → VersionName
  moved_version row Initial = seam_version row
  moved_version row (Of n k) = Of (moved n) k

  -- what one of its operations saw: of a row that isn't listed there, the version when it began
  abbrev pub moved_view : View → View
  moved_view view = rows.from_entries (map (λ e. (e.0, moved_version e.0 e.1)) (rows.entries view) ++ map (λ e. (e.0, seam_version e.0)) (rows.entries before.installed))

  abbrev pub moved_op : Op → Op
  moved_op op = record { statement = op.statement; view = moved_view op.view; rows = op.rows; writes = op.writes }

  abbrev pub moved_txn : Txn → Txn
  moved_txn t = record { no = moved t.no; outcome = t.outcome; ops = map moved_op t.ops }

  -- who installed each row in both, behind those of this one
  abbrev pub joined_installed : Installed → Installed
  joined_installed installed = rows.from_entries (map (λ e. (e.0, installers before e.0 ++ map moved e.1)) (rows.entries installed) ++ rows.entries before.installed)

-- two parts, one behind the other
abbrev pub joined : History → History → History
joined before next = record {
  initial = before.initial;
  txns = before.txns ++ map (moved_txn before) next.txns;
  installed = joined_installed before next.installed;
  end_table = next.end_table;
}

-- the history of a run: of its first part and of those behind it
abbrev pub whole : History → List History → History
whole first [] = first
whole first (part ∷ parts) = joined first (whole part parts)

-- each part begins with the table with which the one before it ended
abbrev pub Fits : History → List History → Type 0
Fits first [] = ⊤
Fits first (part ∷ parts) = (first.end_table ≡ part.initial) × Fits part parts

-- the number in the run of a transaction of a part, whose place is counted from 0
abbrev pub number_in : History → List History → ℕ → ℕ → ℕ
number_in first parts zero n = n
number_in first [] (suc place) n = n
number_in first (part ∷ parts) (suc place) n = moved first (number_in part parts place n)
