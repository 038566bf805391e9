-- When a history is part of another one: its transactions, operations and lists are the other's, with fewer of each.
use Rattle.std.specs.Prelude.{◌≡◌, ◌⊎◌, ℕ, ◌+◌, ℤ, Option, Some, List, [], ◌∷◌, Contains}
use Rattle.std.specs.FinMap as map
use Rattle.lab_table.specs.Row.{Row}
use Rattle.lab_history.specs.History.{History}
use Rattle.lab_history.specs.Version.{installers}
use Rattle.lab_history.specs.declared.transaction.Txn.{Txn}
use Rattle.lab_history.specs.declared.operation.Op.{Op}
use Rattle.lab_history.specs.declared.operation.VersionName.{VersionName}
use Rattle.lab_history.specs.declared.operation.VersionName.TheVariants.{Initial, Of}

-- each member of a list stands for one of the other, in the same order
abbrev pub IsSublistBy : {A B : Type 0} → (A → B → Type 0) → List A → List B → Type 0
IsSublistBy R [] ys = Unit {0}
IsSublistBy R (x ∷ xs) [] = ⊥
IsSublistBy R (x ∷ xs) (y ∷ ys) = (R x y × IsSublistBy R xs ys) ⊎ IsSublistBy R (x ∷ xs) ys

-- a list is the other without some of its members
abbrev pub IsSublist : {A : Type 0} → List A → List A → Type 0
IsSublist xs ys = IsSublistBy (λ x y. x ≡ y) xs ys

-- operations with their numbers, which count on from one
abbrev pub numbered : ℕ → List Op → List (ℕ × Op)
numbered k [] = []
numbered k (op ∷ ops) = (k, op) ∷ numbered (k + 1) ops

-- The number in the whole of an operation of a part, by its transaction and its number there.
module _ (number : ℕ → ℕ → ℕ) where
  -- a version of the part, as the whole names it
  abbrev pub named_in_whole : VersionName → VersionName
  named_in_whole Initial = Initial
  named_in_whole (Of n k) = Of n (number n k)

  -- one statement; and what the part's operation saw, listed and wrote, the other did
  pub record IsOpPart (part op : Op) : Type 0 where
    pub statement : part.statement ≡ op.statement
    pub view : (row : Row) (version : VersionName) → map.get part.view row ≡ Some version → map.get op.view row ≡ Some (named_in_whole version)
    pub rows : (row : Row) (value : ℤ) → map.get part.rows row ≡ Some value → map.get op.rows row ≡ Some value
    pub writes : (row : Row) (state : Option ℤ) → map.get part.writes row ≡ Some state → map.get op.writes row ≡ Some state

  -- an operation of a transaction of the part stands in the whole under its number there
  abbrev pub IsOpAt : ℕ → ℕ × Op → ℕ × Op → Type 0
  IsOpAt n part op = (op.0 ≡ number n part.0) × IsOpPart part.1 op.1

  -- one number and one outcome, and some of the operations, in their order
  pub record IsTxnPart (part t : Txn) : Type 0 where
    pub no : part.no ≡ t.no
    pub outcome : part.outcome ≡ t.outcome
    pub ops : IsSublistBy (IsOpAt t.no) (numbered 1 part.ops) (numbered 1 t.ops)

-- a row has a state in a history: in its initial table, in the table in the end, or because an operation writes it
pub data HasState (h : History) (row : Row) (state : Option ℤ) : Type 0 where
  initial : map.get h.initial row ≡ state → HasState h row state
  in_the_end : map.get h.end_table row ≡ state → HasState h row state
  written : (t : Txn) (op : Op) → Contains h.txns t → Contains t.ops op → map.get op.writes row ≡ Some state → HasState h row state

-- a history is a part of another one
pub record IsPartOf (part h : History) : Type 0 where
  -- what number an operation of the part has there
  pub number : ℕ → ℕ → ℕ
  -- its transactions are some of the other's, in their order
  pub txns : IsSublistBy (IsTxnPart number) part.txns h.txns
  -- and so the installers of each row
  pub installed : (row : Row) → IsSublist (installers part row) (installers h row)
  -- each row of its two tables has a state there that it has in the other
  pub initial : (row : Row) (value : ℤ) → map.get part.initial row ≡ Some value → HasState h row (Some value)
  pub ends : (row : Row) (value : ℤ) → map.get part.end_table row ≡ Some value → HasState h row (Some value)
