-- What the search over operations looks for, and what it has found so far.
use Rattle.std.specs.Prelude.{◌≡◌, ◌⊎◌, ℕ, ◌-◌, ◌<◌, ◌≤◌, Bool, true, false, Option, Some, None, List, length, slice_get}
use Rattle.std.specs.Option.{option_copied}
use Rattle.lab_table.specs.Row.{Row}
use Rattle.lab_history.specs.History.{History}
use Rattle.lab_history.specs.Limits.{max_operations}
use Rattle.lab_history.specs.Version.{find_txn, ops_of, op_at, viewed}
use Rattle.lab_history.specs.declared.operation.Op.{Op}
use Rattle.lab_history.specs.declared.transaction.Txn.{Txn}
use Rattle.lab_deps.specs.Soundness.{IsCommittedOp, HasOp}
use Rattle.lab_deps.specs.Broken.{breaks_at, is_broken}
use Rattle.lab_deps.specs.FaultOrder.{place_among, ComesBefore}
use Rattle.lab_deps.specs.FaultKinds.{op_fault}
use Rattle.lab_deps.specs.Refusal.{is_uncommitted_read}
use Rattle.lab_deps.specs.declared.broken_rows.Step.{Step}
use Rattle.lab_deps.specs.declared.kind.OpFault.{OpFault}
use Rattle.lab_deps.specs.declared.search.Found.{Found}

-- how many of some kinds come before what is found, if anything is
abbrev pub limit : List (Option OpFault) → Option Found → ℕ
limit kinds None = length kinds
limit kinds (Some f) = f.place

-- what is found comes before something else: by its kind, or of the same kind by its place
abbrev pub ComesFirst : History → Found → Found → Type 0
ComesFirst h f g = (f.place < g.place) ⊎ ((f.place ≡ g.place) × ComesBefore h (f.txn, f.op, f.row) (g.txn, g.op, g.row))

-- the test of a kind is true of an operation of a committed transaction and a row
abbrev pub IsTestedAt : History → OpFault → ℕ → ℕ → Row → Type 0
IsTestedAt h kind n k row = HasOp h n k (λ op. is_broken kind h n k op row ≡ true)

-- the same of what is found, whose kind stands at its place among those that are looked for
abbrev pub IsSought : History → List (Option OpFault) → Found → Type 0
IsSought h kinds f = (slice_get kinds f.place ≡ Some (Some f.kind)) × IsTestedAt h f.kind f.txn f.op f.row

-- and the operation is one of a transaction before a place in the file, or of the one there and among so many first ones
abbrev pub IsSoughtTo : History → List (Option OpFault) → ℕ → ℕ → Found → Type 0
IsSoughtTo h kinds p k f = IsSought h kinds f × ((place_among h.txns f.txn < p) ⊎ ((place_among h.txns f.txn ≡ p) × (f.op ≤ k)))

-- and the operation is this one
abbrev pub IsSoughtAt : History → List (Option OpFault) → ℕ → ℕ → Found → Type 0
IsSoughtAt h kinds n k f = IsSought h kinds f × (f.txn ≡ n) × (f.op ≡ k)

-- whether what is found, if anything is, comes behind rows that end otherwise: a read of what was never committed
abbrev pub is_behind_ends : Option Found → Bool
is_behind_ends None = true
is_behind_ends (Some f) = is_uncommitted_read (op_fault f.kind f.txn f.op f.row)

-- a transaction that is found by its number, of no more operations than the limit
pub record IsTxnOf (h : History) (t : Txn) : Type 0 where
  pub found : find_txn h.txns t.no ≡ Some t
  pub few : length t.ops ≤ max_operations

-- an operation of a committed transaction, and what is known of it
pub record IsStep (h : History) (s : Step) : Type 0 where
  pub there : IsCommittedOp h s.txn s.number s.op.now
  pub counted : 1 ≤ s.number
  pub behind : option_copied s.before ≡ op_at (ops_of h s.txn) (s.number - 1)
  pub same : s.again ≡ true → (b : Op) → option_copied s.before ≡ Some b → b.view ≡ s.op.now.view
  pub fine : s.fine ≡ true → (kind : OpFault) (row : Row) → breaks_at kind h s.txn s.number row (viewed s.op.now row) ≡ false
