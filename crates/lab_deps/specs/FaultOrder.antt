-- The order of faults, and which fault of a history is the first: by kind; within a kind by the transaction's
-- position in the file, then operation, then row.
use Rattle.std.specs.Prelude.{◌≡◌, ◌⊎◌, ℕ, suc, ◌<◌, ◌==◌, true, cond, List, [], ◌∷◌}
use Rattle.std.specs.Ordering.{is_lt}
use Rattle.lab_table.specs.Row.{Row, row_cmp}
use Rattle.lab_history.specs.History.{History}
use Rattle.lab_history.specs.declared.transaction.Txn.{Txn}
use Rattle.lab_deps.specs.Soundness.{Stands}
use Rattle.lab_deps.specs.declared.fault.LocalFault.{LocalFault}
use Rattle.lab_deps.specs.declared.fault.LocalFault.TheVariants as fault
use Rattle.lab_deps.specs.declared.fault.Unsound.{Unsound}
use Rattle.lab_deps.specs.declared.fault.Unsound.TheVariants as unsound

-- the place of a fault's kind in the order of kinds
abbrev pub kind_place : LocalFault → ℕ
kind_place (fault.Dangling n k row) = 0
kind_place (fault.InstallOrder row) = 1
kind_place (fault.OwnWriteMissed n k row) = 2
kind_place (fault.LaterThanOwn n k row) = 3
kind_place (fault.RowsDiffer n k row) = 4
kind_place (fault.WritesDiffer n k row) = 5
kind_place (fault.EndDiffers row) = 6
kind_place (fault.AbortedRead n k row) = 7
kind_place (fault.IntermediateRead n k row) = 8

-- where a fault is: its transaction, operation and row; 0 and 0, which no operation has, where it is at a row alone
abbrev pub where_is : LocalFault → ℕ × ℕ × Row
where_is (fault.Dangling n k row) = (n, k, row)
where_is (fault.AbortedRead n k row) = (n, k, row)
where_is (fault.IntermediateRead n k row) = (n, k, row)
where_is (fault.OwnWriteMissed n k row) = (n, k, row)
where_is (fault.LaterThanOwn n k row) = (n, k, row)
where_is (fault.RowsDiffer n k row) = (n, k, row)
where_is (fault.WritesDiffer n k row) = (n, k, row)
where_is (fault.InstallOrder row) = (0, 0, row)
where_is (fault.EndDiffers row) = (0, 0, row)

-- how many transactions of the file stand before the one of this number
abbrev pub place_among : List Txn → ℕ → ℕ
place_among [] n = 0
place_among (t ∷ ts) n = cond (t.no == n) 0 (suc (place_among ts n))

-- one place comes before another: its transaction stands earlier in the file, or in the same one its operation, or at the same one its row is less
abbrev pub ComesBefore : History → ℕ × ℕ × Row → ℕ × ℕ × Row → Type 0
ComesBefore h (n, k, row) (m, j, other) = (place_among h.txns n < place_among h.txns m) ⊎ ((n ≡ m) × ((k < j) ⊎ ((k ≡ j) × (is_lt (row_cmp row other) ≡ true))))

-- one fault comes before another: by its kind, or of the same kind by its place
abbrev pub Precedes : History → LocalFault → LocalFault → Type 0
Precedes h f g = (kind_place f < kind_place g) ⊎ ((kind_place f ≡ kind_place g) × ComesBefore h (where_is f) (where_is g))

-- a fault is the first of those that are true of a history
abbrev pub IsFirst : History → LocalFault → Type 0
IsFirst h f = Stands h f × ((g : LocalFault) → Stands h g → Precedes h g f → ⊥)

-- no fault that is made so of another place comes before the one of this place
abbrev pub IsFirstRead : History → (ℕ → ℕ → Row → LocalFault) → ℕ → ℕ → Row → Type 0
IsFirstRead h made n k row = (m j : ℕ) (other : Row) → Stands h (made m j other) → Precedes h (made m j other) (made n k row) → ⊥

-- what a history is refused by is its first fault
abbrev pub NamesFirst : History → Unsound → Type 0
NamesFirst h unsound.NoMemory = ⊥
NamesFirst h (unsound.Fault fault) = IsFirst h fault
