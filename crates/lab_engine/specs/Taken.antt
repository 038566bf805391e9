-- The least of a transaction's rows that another transaction has installed since its begin.
use Rattle.std.specs.Prelude.{◌≡◌, ℕ, Bool, true, Option, Some, None, List, IsTrue}
use Rattle.std.specs.List.{list_any}
use Rattle.std.specs.Ordering.{is_lt}
use Rattle.lab_table.specs.Row.{Row, row_cmp, row_eq}
use Rattle.lab_engine.specs.declared.rules.Conflict.{Conflict}
use Rattle.lab_engine.specs.declared.rules.ConflictKind.TheVariants.{Write}
use Rattle.lab_engine.specs.Log.{Past, Txn, commits}
use Rattle.lab_engine.specs.Rules.{IsBelow, IsFirstCommitter, Conflicts}

-- a row is one of some rows
abbrev pub IsAmong : Row → List Row → Type 0
IsAmong row rows = IsTrue (list_any (row_eq row) rows)

-- the least of some rows that somebody has taken, with who took it; none where nobody has taken any
abbrev pub IsLeastTaken : (Row → Option ℕ) → List Row → Option Conflict → Type 0
IsLeastTaken taken rows None = (row : Row) → IsAmong row rows → taken row ≡ None
IsLeastTaken taken rows (Some least) = (least.kind ≡ Write) × IsAmong least.row rows × (taken least.row ≡ Some least.by)
    × ((row : Row) → IsBelow row least.row → IsAmong row rows → taken row ≡ None)

-- whether a row comes before the one that was found, if one was
abbrev pub comes_before : Row → Option Conflict → Bool
comes_before row None = true
comes_before row (Some found) = is_lt (row_cmp row found.row)

-- a transaction is the first committer, or this is the first of its conflicts by what was written
abbrev pub IsFirstTaken : Past → Txn → Option Conflict → Type 0
IsFirstTaken past txn None = IsFirstCommitter (commits past) txn
IsFirstTaken past txn (Some first) = (first.kind ≡ Write) × Conflicts past txn first.row first.by
    × ((other : Row) (number : ℕ) → IsBelow other first.row → ¬ Conflicts past txn other number)
