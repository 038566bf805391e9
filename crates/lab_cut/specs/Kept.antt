-- The operations of a transaction that a mask keeps, renumbered, and the last of them that writes a row.
use Rattle.std.specs.Prelude.{ℕ, zero, suc, ◌+◌, ◌==◌, Bool, cond, Option, Some, None, option_and_then, List, [], ◌∷◌, length, drop, slice_get}
use Rattle.std.specs.BTreeMap.{get}
use Rattle.std.specs.FinMap as map
use Rattle.std.specs.Ordering.{nat_cmp}
use Rattle.lab_table.specs.Row.{Row, row_cmp}
use Rattle.lab_history.specs.declared.operation.Op.{Op}
use Rattle.lab_history.specs.declared.transaction.Txn.{Txn}
use Rattle.lab_cut.specs.PartOf.{numbered}
use Rattle.lab_cut.specs.Left.{next_kept, left_of}
use Rattle.lab_cut.specs.declared.kept.Kept.{Kept}
use Rattle.lab_cut.specs.declared.kept.Moves.{Moves}

-- the new numbers of the members of a list, which count on from one, and 0 for those that go
abbrev pub new_numbers : {A : Type 0} → ℕ → List Bool → List A → List ℕ
new_numbers last mask [] = []
new_numbers last mask (x ∷ xs) =
    cond (next_kept mask) ((last + 1) ∷ new_numbers (last + 1) (drop 1 mask) xs) (0 ∷ new_numbers last (drop 1 mask) xs)

-- which operation was the last to write each row, when one of this number has written these
abbrev pub with_writes : {A : Type 0} → map.FinMap row_cmp ℕ → ℕ → List (Row × A) → map.FinMap row_cmp ℕ
with_writes last k [] = last
with_writes last k (e ∷ es) = with_writes (map.insert last e.0 k) k es

-- the same when several have run
abbrev pub last_writes : map.FinMap row_cmp ℕ → List (ℕ × Op) → map.FinMap row_cmp ℕ
last_writes last [] = last
last_writes last (e ∷ es) = last_writes (with_writes last e.0 (map.entries e.1.writes)) es

-- what a mask keeps of a transaction's operations
abbrev pub kept_of : List Bool → List Op → Kept
kept_of mask ops = record { numbers = new_numbers 0 mask ops; writes = last_writes map.empty (left_of mask (numbered 1 ops)) }

-- what a mask of all operations keeps of each transaction
abbrev pub all_kept : List Bool → List Txn → List (ℕ × Kept)
all_kept mask [] = []
all_kept mask (t ∷ ts) = (t.no, kept_of mask t.ops) ∷ all_kept (drop (length t.ops) mask) ts

-- the last value that a list gives a number, else the one that it has
abbrev pub last_given : {A : Type 0} → Option A → List (ℕ × A) → ℕ → Option A
last_given value [] n = value
last_given value (e ∷ es) n = last_given (cond (e.0 == n) (Some e.1) value) es n

-- what is kept of the transaction with a number
abbrev pub kept_in : Moves → ℕ → Option Kept
kept_in moves n = get nat_cmp moves.by_txn n

-- what stands at a place, counted from 1
abbrev pub number_at : List ℕ → ℕ → Option ℕ
number_at ns zero = None
number_at ns (suc k) = slice_get ns k

-- What of each transaction is kept.
module _ (kept : ℕ → Option Kept) where
  -- the new number of a transaction's operation, 0 where it goes, nothing where there is no such operation
  abbrev pub number_of : ℕ → ℕ → Option ℕ
  number_of n k = option_and_then (λ some. number_at some.numbers k) (kept n)

  -- the last operation of a transaction that is kept and writes a row, by its old number
  abbrev pub last_left : ℕ → Row → Option ℕ
  last_left n row = option_and_then (λ some. map.get some.writes row) (kept n)
