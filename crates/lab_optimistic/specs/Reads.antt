-- Which rows that a transaction has read were changed by others since its begin.
use Rattle.std.specs.Prelude.{◌≡◌, ℕ, Bool, true, cond, Option, Some, None, List, [], ◌∷◌}
use Rattle.std.specs.List.{list_any}
use Rattle.std.specs.Ordering.{is_lt}
use Rattle.std.specs.FinMap as map
use Rattle.lab_table.specs.Row.{Row, row_cmp}
use Rattle.lab_table.specs.Statement.{may_match}
use Rattle.lab_table.specs.Table.{Table}
use Rattle.lab_table.specs.declared.statement.Statement.{Statement}
use Rattle.lab_engine.specs.declared.asker.Asker.{Asker}
use Rattle.lab_engine.specs.declared.row_state.Installed.{Installed}
use Rattle.lab_engine.specs.declared.rules.Conflict.{Conflict}
use Rattle.lab_engine.specs.declared.rules.ConflictKind.TheVariants.{Read}
use Rattle.lab_engine.specs.Kept.{Kept}
use Rattle.lab_engine.specs.KeptRows.{chain_in}
use Rattle.lab_engine.specs.Log.{Past, Txn, commits}
use Rattle.lab_engine.specs.Rules.{IsBelow, ConflictsRead, ReadsStand}
use Rattle.lab_engine.specs.Taken.{comes_before}
use Rattle.lab_optimistic.specs.Changes.{first_change, has_read_either}

-- who was the first since the begin of the asker's transaction to change a row of this chain that the transaction has read
abbrev pub change_of : Asker → Row → List Installed → Option ℕ
change_of asker row chain = first_change (has_read_either asker row) (map.get asker.setup.now row) asker.running.now.before chain

-- the same by the row's chain
abbrev pub change_at : Asker → Row → Option ℕ
change_at asker row = change_of asker row (chain_in asker.situation.now.rows row)

-- the conflict of a row with who changed it, if somebody did, else another
abbrev pub conflict_at : Row → Option ℕ → Option Conflict → Option Conflict
conflict_at row None other = other
conflict_at row (Some by) other = Some (record { kind = Read; row = row; by = by })

-- the conflict of a row that comes before the one that was found, if it has one, else what was found
abbrev pub nearer : Asker → Row → Option Conflict → Option Conflict
nearer asker row found = cond (comes_before row found) (conflict_at row (change_at asker row) found) found

-- the conflict of the first of some rows that has one
abbrev pub first_in : Asker → List (Row × Kept) → Option Conflict
first_in asker [] = None
first_in asker (e ∷ es) = conflict_at e.0 (change_of asker e.0 e.1.chain) (first_in asker es)

-- the conflict at the least row of those that pass a test; none where no such row has one
abbrev pub IsLeastOf : Asker → (Row → Bool) → Option Conflict → Type 0
IsLeastOf asker passes None = (row : Row) → passes row ≡ true → change_at asker row ≡ None
IsLeastOf asker passes (Some least) = (least.kind ≡ Read) × (change_at asker least.row ≡ Some least.by)
    × ((row : Row) → IsBelow row least.row → passes row ≡ true → change_at asker row ≡ None)

-- whether one of some statements may match a row
abbrev pub any_may_match : List Statement → Row → Bool
any_may_match statements row = list_any (λ s. may_match s row) statements

-- the same of all rows
abbrev pub IsLeastRead : Asker → Option Conflict → Type 0
IsLeastRead asker found = IsLeastOf asker (λ _. true) found

-- what a transaction has read stands, or this is the first of its conflicts by what was read
abbrev pub IsFirstRead : Table → Past → Txn → Option Conflict → Type 0
IsFirstRead setup past txn None = ReadsStand setup (commits past) txn
IsFirstRead setup past txn (Some first) = (first.kind ≡ Read) × ConflictsRead setup past txn first.row first.by
    × ((other : Row) (number : ℕ) → IsBelow other first.row → ¬ ConflictsRead setup past txn other number)

-- the conflict at the lower row; at one row that by what was written
abbrev pub earlier : Option Conflict → Option Conflict → Option Conflict
earlier None read = read
earlier (Some taken) None = Some taken
earlier (Some taken) (Some read) = cond (is_lt (row_cmp read.row taken.row)) (Some read) (Some taken)
