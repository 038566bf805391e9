-- What is known of the operations of one of a history's transactions.
use Rattle.std.proofs.Common.{ℕ, ◌≤◌, ◌==◌, true, false, cond, Some, List, [], ◌∷◌, length, length-append, arith}
use Rattle.lab_history.specs.{History.{History}, HistoryRules.{Keeps, operations}, Version.{find_txn, ops_in, ops_of}, declared.transaction.Txn.{Txn}}

ops_fit : (ts : List Txn) (n : ℕ) → length (ops_in (find_txn ts n)) ≤ length (operations ts)
ops_fit [] n = omega arith
ops_fit (t ∷ ts) n = elim (t.no == n) as (λ b. length (ops_in (cond b (Some t) (find_txn ts n))) ≤ length (operations (t ∷ ts))) [
  | true ↦ omega (arith, length-append t.ops (operations ts))
  | false ↦ omega (arith, length-append t.ops (operations ts), ops_fit ts n)
]

-- they are no more than a history may have
pub few_of : (h : History) (n : ℕ) → Keeps h → length (ops_of h n) ≤ 10000
few_of h n k = within _ _ (ops_fit h.txns n) k.few_operations
  where
    within : (a b : ℕ) → a ≤ b → b ≤ 10000 → a ≤ 10000
    within a b l m = omega arith
