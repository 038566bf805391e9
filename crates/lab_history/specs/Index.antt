-- The index of a history.
use Rattle.std.specs.Prelude.{◌≡◌, ℕ, ◌+◌, option_and_then, List, [], ◌∷◌, ◌++◌, slice_get}
use Rattle.std.specs.FinMap as finite
use Rattle.std.specs.Ordering.{nat_cmp}
use Rattle.lab_table.specs.Row.{Row}
use Rattle.lab_history.specs.History.{History}
use Rattle.lab_history.specs.Keyed.{value_at}
pub use Rattle.lab_history.specs.TxnRow.{txn_row_cmp}
use Rattle.lab_history.specs.Version.{find_txn, ops_of, last_write, installers, place_in}
use Rattle.lab_history.specs.declared.index.Index.{Index}
use Rattle.lab_history.specs.declared.operation.Op.{Op}
use Rattle.lab_history.specs.declared.transaction.Txn.{Txn}

-- an index finds what a history has: each transaction by its number, its last write of each row, and its place among the row's installers
pub record IsIndexOf (index : Index) (h : History) : Type 0 where
  pub numbers : (n : ℕ) → option_and_then (λ place. slice_get h.txns place) (value_at nat_cmp index.numbers n) ≡ find_txn h.txns n
  pub last_writes : (n : ℕ) (row : Row) → value_at txn_row_cmp index.last_writes (n, row) ≡ last_write (ops_of h n) row
  pub places : (row : Row) (n : ℕ) → value_at txn_row_cmp index.places (n, row) ≡ place_in (installers h row) n

-- the numbers of transactions with their places, counted on from one
abbrev pub numbers_from : ℕ → List Txn → List (ℕ × ℕ)
numbers_from place [] = []
numbers_from place (t ∷ ts) = (t.no, place) ∷ numbers_from (place + 1) ts

-- the rows that an operation of this number writes
abbrev pub written_by : {A : Type 0} → ℕ → ℕ → List (Row × A) → List ((ℕ × Row) × ℕ)
written_by txn op [] = []
written_by txn op (e ∷ es) = ((txn, e.0), op) ∷ written_by txn op es

-- the rows that a transaction's operations write, which are numbered on from one
abbrev pub written_from : ℕ → ℕ → List Op → List ((ℕ × Row) × ℕ)
written_from txn place [] = []
written_from txn place (op ∷ ops) = written_by txn (place + 1) (finite.entries op.writes) ++ written_from txn (place + 1) ops

-- the rows that transactions write
abbrev pub written : List Txn → List ((ℕ × Row) × ℕ)
written [] = []
written (t ∷ ts) = written_from t.no 0 t.ops ++ written ts

-- the installers of a row with their places, counted on from one
abbrev pub placed_from : Row → ℕ → List ℕ → List ((ℕ × Row) × ℕ)
placed_from row place [] = []
placed_from row place (n ∷ ns) = ((n, row), place + 1) ∷ placed_from row (place + 1) ns

-- the installers of all rows
abbrev pub placed : List (Row × List ℕ) → List ((ℕ × Row) × ℕ)
placed [] = []
placed (e ∷ es) = placed_from e.0 0 e.1 ++ placed es
