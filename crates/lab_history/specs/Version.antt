-- Words for a history: its transactions and operations, its versions and their states.
--
-- Origin: Adya, Liskov and O'Neil, "Generalized Isolation Level Definitions" (2000), section 4.
use Rattle.std.specs.Option.{option_or}
use Rattle.std.specs.Prelude.{◌≡◌, ℕ, zero, suc, ◌+◌, ◌≤◌, ◌==◌, Bool, true, false, cond, Option, Some, None, is_some, is_none, option_map, option_and_then, unwrap_or, find, List, [], ◌∷◌, slice_get}
use Rattle.std.specs.FinMap as map
use Rattle.lab_table.specs.Row.{Row}
use Rattle.lab_table.specs.Table.{State}
use Rattle.lab_history.specs.History.{History}
use Rattle.lab_history.specs.declared.transaction.Txn.{Txn}
use Rattle.lab_history.specs.declared.transaction.Outcome.{Outcome}
use Rattle.lab_history.specs.declared.transaction.Outcome.TheVariants.{Committed, Aborted}
use Rattle.lab_history.specs.declared.operation.Op.{Op}
use Rattle.lab_history.specs.declared.operation.VersionName.{VersionName}
use Rattle.lab_history.specs.declared.operation.VersionName.TheVariants.{Initial, Of}

-- the transaction with this number
abbrev pub find_txn : List Txn → ℕ → Option Txn
find_txn txns n = find (λ t. t.no == n) txns

-- how the transaction with this number ended, if there is one
abbrev pub outcome_of : History → ℕ → Option Outcome
outcome_of h n = option_map (λ t. t.outcome) (find_txn h.txns n)

-- a committed transaction has this number
abbrev pub IsCommitted : History → ℕ → Type 0
IsCommitted h n = outcome_of h n ≡ Some Committed

-- an aborted transaction has this number
abbrev pub IsAborted : History → ℕ → Type 0
IsAborted h n = outcome_of h n ≡ Some Aborted

-- a transaction's operations, none where there is no transaction
abbrev pub ops_in : Option Txn → List Op
ops_in found = unwrap_or (option_map (λ t. t.ops) found) []

-- the operations of the transaction with this number, none where there is no such transaction
abbrev pub ops_of : History → ℕ → List Op
ops_of h n = unwrap_or (option_map (λ t. t.ops) (find_txn h.txns n)) []

-- the operation at a place, counted from 1
abbrev pub op_at : List Op → ℕ → Option Op
op_at ops zero = None
op_at ops (suc k) = slice_get ops k

-- the operation of a transaction with this number
abbrev pub IsOp : History → ℕ → ℕ → Op → Type 0
IsOp h n k op = op_at (ops_of h n) k ≡ Some op

-- what an operation writes to a row, if it writes it
abbrev pub new_state : Op → Row → Option State
new_state op row = map.get op.writes row

-- the version of a row that an operation sees
abbrev pub viewed : Op → Row → VersionName
viewed op row = unwrap_or (map.get op.view row) Initial

-- what a version of a row is; nothing where there is no such version
abbrev pub version_state : History → Row → VersionName → Option State
version_state h row Initial = Some (map.get h.initial row)
version_state h row (Of n k) = option_and_then (λ op. new_state op row) (op_at (ops_of h n) k)

-- the state of a version of a row; absent where there is no such version
abbrev pub state_of : History → Row → VersionName → State
state_of h row version = unwrap_or (version_state h row version) None

-- the state of a row that an operation sees
abbrev pub viewed_state : History → Op → Row → State
viewed_state h op row = state_of h row (viewed op row)

-- the greatest place of an operation that writes a row
abbrev pub last_write : List Op → Row → Option ℕ
last_write [] row = None
last_write (op ∷ ops) row = option_or (option_map (λ k. suc k) (last_write ops row)) (cond (is_some (new_state op row)) (Some 1) None)

-- the operation at a place, counted from 1, writes a row
abbrev pub WritesAt : List Op → ℕ → Row → Type 0
WritesAt ops k row = (op : Op) × (op_at ops k ≡ Some op) × (is_some (new_state op row) ≡ true)

-- the operation at a place writes a row, and none at a greater place does
abbrev pub IsLastWrite : List Op → Row → ℕ → Type 0
IsLastWrite ops row k = WritesAt ops k row × ((later : ℕ) → WritesAt ops later row → later ≤ k)

-- whether a transaction writes a row
abbrev pub writes_row : History → ℕ → Row → Bool
writes_row h n row = is_some (last_write (ops_of h n) row)

-- the state that a transaction's last write of a row gives it
abbrev pub left_state : History → ℕ → Row → Option State
left_state h n row = option_and_then (λ k. version_state h row (Of n k)) (last_write (ops_of h n) row)

-- the transactions that installed a row, in order
abbrev pub installers : History → Row → List ℕ
installers h row = unwrap_or (map.get h.installed row) []

-- the place of a number in a list, counted from 1
abbrev pub place_in : List ℕ → ℕ → Option ℕ
place_in [] n = None
place_in (m ∷ ms) n = cond (m == n) (Some 1) (option_map (λ p. suc p) (place_in ms n))

-- whether there is a place, and it is this one
abbrev pub is_at : Option ℕ → ℕ → Bool
is_at None p = false
is_at (Some q) p = q == p

-- whether a transaction isn't among the installers of a row
abbrev pub is_missing : History → ℕ → Row → Bool
is_missing h n row = is_none (place_in (installers h row) n)

-- a number stands at a place of a list, counted from 1
abbrev pub StandsAt : List ℕ → ℕ → ℕ → Type 0
StandsAt ns p n = (index : ℕ) × (p ≡ index + 1) × (slice_get ns index ≡ Some n)

-- the least place at which a number stands
abbrev pub IsPlaceOf : List ℕ → ℕ → ℕ → Type 0
IsPlaceOf ns n p = StandsAt ns p n × ((other : ℕ) → StandsAt ns other n → p ≤ other)

-- a row's versions are the initial one and then those of its installers: the state of the version at a place, counted from 0
abbrev pub state_at : History → Row → ℕ → State
state_at h row zero = map.get h.initial row
state_at h row (suc p) = unwrap_or (option_and_then (λ n. left_state h n row) (slice_get (installers h row) p)) None
