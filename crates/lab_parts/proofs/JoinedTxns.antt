-- The transactions of two parts, one behind the other: which one a number finds, and what that one did.
use Rattle.std.proofs.{Common.{◌≡◌, ℕ, zero, suc, ◌+◌, ◌-◌, ◌<◌, ◌≤◌, ◌==◌, Bool, true, false, cond, Option, Some, None, List, [], ◌∷◌, ◌++◌, map, refl, sym, ap, ◌∙◌, arith, ◌⊎◌, inl, inr}, lemmas.{Bool.{cases_eq, cases_lt, eq-eqb, ne_eqb}, Option.{none-some, same_Some, slice_get-map}}}
use Rattle.std.specs.{Prelude.{is_some, option_map, option_and_then}, Option.{option_or}}
use Rattle.lab_table.specs.Row.{Row}
use Rattle.lab_history.specs.History.{History}
use Rattle.lab_history.specs.Version.{find_txn, outcome_of, IsCommitted, IsOp, ops_in, ops_of, op_at, new_state, version_state, last_write, writes_row}
use Rattle.lab_history.specs.declared.{operation.{Op.{Op}, VersionName.TheVariants.{Of}}, transaction.{Outcome.{Outcome, TheVariants.{Committed}}, Txn.{Txn}}}
use Rattle.lab_history.proofs.FirstValues.{or_none}
use Rattle.lab_parts.specs.Whole.{above_all, moved, moved_op, moved_txn, joined}

-- two numbers behind so many others are equal where they were
pub same_behind : (k m n : ℕ) → ((k + m) == (k + n)) ≡ (m == n)
same_behind k m n = elim (cases_eq m n) [
  | inl e ↦ eq-eqb (k + m) (k + n) (omega (arith, e)) ∙ sym (eq-eqb m n e)
  | inr apart ↦ ne_eqb (k + m) (k + n) (λ e. apart (omega (arith, e))) ∙ sym (ne_eqb m n apart)
]

-- from the least number above all on there is no transaction
pub none_above : (ts : List Txn) (n : ℕ) → above_all ts ≤ n → find_txn ts n ≡ None
none_above [] n le = refl
none_above (t ∷ ts) n le =
    ap (λ b. cond b (Some t) (find_txn ts n)) (ne_eqb t.no n (λ same. omega (arith, le, same))) ∙ none_above ts n (omega (arith, le))

-- in two lists a number finds the transaction of the first that has it
pub find_append : (a b : List Txn) (n : ℕ) → find_txn (a ++ b) n ≡ option_or (find_txn a n) (find_txn b n)
find_append [] b n = refl
find_append (t ∷ a) b n = either (find_append a b n) (t.no == n)
  where
    either : find_txn (a ++ b) n ≡ option_or (find_txn a n) (find_txn b n) → (x : Bool) → cond x (Some t) (find_txn (a ++ b) n) ≡ option_or (cond x (Some t) (find_txn a n)) (find_txn b n)
    either rest true = refl
    either rest false = rest

module _ (before : History) where
  -- a moved number finds the moved transaction
  pub find_moved : (ts : List Txn) (m : ℕ) → find_txn (map (moved_txn before) ts) (moved before m) ≡ option_map (moved_txn before) (find_txn ts m)
  find_moved [] m = refl
  find_moved (t ∷ ts) m =
      ap (λ b. cond b (Some (moved_txn before t)) (find_txn (map (moved_txn before) ts) (moved before m))) (same_behind (above_all before.txns) t.no m)
      ∙ either (find_moved ts m) (t.no == m)
    where
      either : find_txn (map (moved_txn before) ts) (moved before m) ≡ option_map (moved_txn before) (find_txn ts m) → (b : Bool)
          → cond b (Some (moved_txn before t)) (find_txn (map (moved_txn before) ts) (moved before m)) ≡ option_map (moved_txn before) (cond b (Some t) (find_txn ts m))
      either rest true = refl
      either rest false = rest

  -- a number that isn't moved finds none
  pub none_moved : (ts : List Txn) (n : ℕ) → n < above_all before.txns → find_txn (map (moved_txn before) ts) n ≡ None
  none_moved [] n less = refl
  none_moved (t ∷ ts) n less =
      ap (λ b. cond b (Some (moved_txn before t)) (find_txn (map (moved_txn before) ts) n)) (ne_eqb (moved before t.no) n (λ same. omega (arith, less, same))) ∙ none_moved ts n less

  -- what a moved transaction is and does
  ops_moved : (o : Option Txn) → ops_in (option_map (moved_txn before) o) ≡ map (moved_op before) (ops_in o)
  ops_moved None = refl
  ops_moved (Some t) = refl

  outcome_moved : (o : Option Txn) → option_map (λ t. t.outcome) (option_map (moved_txn before) o) ≡ option_map (λ t. t.outcome) o
  outcome_moved None = refl
  outcome_moved (Some t) = refl

  -- a moved operation stands at the place of the operation
  pub op_at_moved : (ops : List Op) (k : ℕ) → op_at (map (moved_op before) ops) k ≡ option_map (moved_op before) (op_at ops k)
  op_at_moved ops zero = refl
  op_at_moved ops (suc k) = slice_get-map (moved_op before) ops k

  -- and gives a row the same state
  pub state_moved : (o : Option Op) (row : Row) → option_and_then (λ op. new_state op row) (option_map (moved_op before) o) ≡ option_and_then (λ op. new_state op row) o
  state_moved None row = refl
  state_moved (Some op) row = refl

  -- so the last write is at the same place
  pub last_write_moved : (ops : List Op) (row : Row) → last_write (map (moved_op before) ops) row ≡ last_write ops row
  last_write_moved [] row = refl
  last_write_moved (op ∷ ops) row = ap (λ later. option_or (option_map (λ k. suc k) later) (cond (is_some (new_state op row)) (Some 1) None)) (last_write_moved ops row)

  -- a moved operation comes from an operation
  pub from_moved : (o : Option Op) (op : Op) → option_map (moved_op before) o ≡ Some op → (was : Op) × (o ≡ Some was) × (op ≡ moved_op before was)
  from_moved None op is = absurd (none-some op is)
  from_moved (Some was) op is = (was, refl, sym (same_Some (moved_op before was) op is))

module _ (before next : History) where
  -- each number is one of the first part, or a moved one
  pub first_or_second : (n : ℕ) → (n < above_all before.txns) ⊎ ((m : ℕ) × (n ≡ moved before m))
  first_or_second n = elim (cases_lt n (above_all before.txns)) [
    | inl less ↦ inl less
    | inr le ↦ inr (n - above_all before.txns, omega (arith, le))
  ]

  -- ---- the numbers of the first part
  pub find_first : (n : ℕ) → n < above_all before.txns → find_txn (joined before next).txns n ≡ find_txn before.txns n
  find_first n less =
      find_append before.txns (map (moved_txn before) next.txns) n ∙ ap (option_or (find_txn before.txns n)) (none_moved before next.txns n less) ∙ or_none (find_txn before.txns n)

  pub outcome_first : (n : ℕ) → n < above_all before.txns → outcome_of (joined before next) n ≡ outcome_of before n
  outcome_first n less = ap (option_map (λ t. t.outcome)) (find_first n less)

  pub ops_first : (n : ℕ) → n < above_all before.txns → ops_of (joined before next) n ≡ ops_of before n
  ops_first n less = ap ops_in (find_first n less)

  pub op_first : (n k : ℕ) → n < above_all before.txns → op_at (ops_of (joined before next) n) k ≡ op_at (ops_of before n) k
  op_first n k less = ap (λ ops. op_at ops k) (ops_first n less)

  pub last_first : (n : ℕ) (row : Row) → n < above_all before.txns → last_write (ops_of (joined before next) n) row ≡ last_write (ops_of before n) row
  last_first n row less = ap (λ ops. last_write ops row) (ops_first n less)

  pub writes_first : (n : ℕ) (row : Row) → n < above_all before.txns → writes_row (joined before next) n row ≡ writes_row before n row
  writes_first n row less = ap is_some (last_first n row less)

  pub version_first : (n k : ℕ) (row : Row) → n < above_all before.txns → version_state (joined before next) row (Of n k) ≡ version_state before row (Of n k)
  version_first n k row less = ap (option_and_then (λ op. new_state op row)) (op_first n k less)

  -- ---- the moved numbers
  pub find_second : (m : ℕ) → find_txn (joined before next).txns (moved before m) ≡ option_map (moved_txn before) (find_txn next.txns m)
  find_second m =
      find_append before.txns (map (moved_txn before) next.txns) (moved before m)
      ∙ ap (λ o. option_or o (find_txn (map (moved_txn before) next.txns) (moved before m))) (none_above before.txns (moved before m) (omega arith))
      ∙ find_moved before next.txns m

  pub outcome_second : (m : ℕ) → outcome_of (joined before next) (moved before m) ≡ outcome_of next m
  outcome_second m = ap (option_map (λ t. t.outcome)) (find_second m) ∙ outcome_moved before (find_txn next.txns m)

  pub ops_second : (m : ℕ) → ops_of (joined before next) (moved before m) ≡ map (moved_op before) (ops_of next m)
  ops_second m = ap ops_in (find_second m) ∙ ops_moved before (find_txn next.txns m)

  pub op_second : (m k : ℕ) → op_at (ops_of (joined before next) (moved before m)) k ≡ option_map (moved_op before) (op_at (ops_of next m) k)
  op_second m k = ap (λ ops. op_at ops k) (ops_second m) ∙ op_at_moved before (ops_of next m) k

  pub last_second : (m : ℕ) (row : Row) → last_write (ops_of (joined before next) (moved before m)) row ≡ last_write (ops_of next m) row
  last_second m row = ap (λ ops. last_write ops row) (ops_second m) ∙ last_write_moved before (ops_of next m) row

  pub writes_second : (m : ℕ) (row : Row) → writes_row (joined before next) (moved before m) row ≡ writes_row next m row
  writes_second m row = ap is_some (last_second m row)

  pub version_second : (m k : ℕ) (row : Row) → version_state (joined before next) row (Of (moved before m) k) ≡ version_state next row (Of m k)
  version_second m k row = ap (option_and_then (λ op. new_state op row)) (op_second m k) ∙ state_moved before (op_at (ops_of next m) k) row

  -- an operation of a moved transaction is a moved operation
  pub op_from_second : (m k : ℕ) (op : Op) → IsOp (joined before next) (moved before m) k op → (was : Op) × IsOp next m k was × (op ≡ moved_op before was)
  op_from_second m k op is = from_moved before (op_at (ops_of next m) k) op (sym (op_second m k) ∙ is)

-- from the least number above all on nobody has ended
pub nobody_above : (h : History) (n : ℕ) → above_all h.txns ≤ n → outcome_of h n ≡ None
nobody_above h n le = ap (option_map (λ t. t.outcome)) (none_above h.txns n le)

-- so who has ended has a number below it
pub ended_below : (h : History) (n : ℕ) (end : Outcome) → outcome_of h n ≡ Some end → n < above_all h.txns
ended_below h n end is = elim (cases_lt n (above_all h.txns)) [
  | inl less ↦ less
  | inr le ↦ absurd (none-some end (sym (nobody_above h n le) ∙ is))
]

pub committed_below : (h : History) (n : ℕ) → IsCommitted h n → n < above_all h.txns
committed_below h n c = ended_below h n Committed c
