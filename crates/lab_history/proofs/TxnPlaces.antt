-- The places of transactions.
use Rattle.std.{proofs.Common.{◌≡◌, ℕ, suc, ◌+◌, Bool, true, false, cond, ◌==◌, List, [], ◌∷◌, Some, refl, ap, ◌∙◌, arith, zero-add}, specs.{Prelude.{slice_get, option_and_then}, Ordering.{nat_cmp}}}
use Rattle.lab_history.{specs.{Index.{numbers_from}, Keyed.{value_at}, Version.{find_txn}, declared.transaction.Txn.{Txn}}, proofs.FirstValues.{same_number}}

module _ (n : ℕ) (all : List Txn) where
  -- at the place of a number stands its transaction
  found_from : (place : ℕ) (ts : List Txn) → ((k at : ℕ) → at ≡ place + k → slice_get all at ≡ slice_get ts k)
      → option_and_then (λ at. slice_get all at) (value_at nat_cmp (numbers_from place ts) n) ≡ find_txn ts n
  found_from place [] stands = refl
  found_from place (t ∷ ts) stands =
      ap (λ b. option_and_then (λ at. slice_get all at) (cond b (Some place) (value_at nat_cmp (numbers_from (place + 1) ts) n))) (same_number t.no n)
      ∙ either (found_from (place + 1) ts (λ k at is. stands (suc k) at (omega (arith, is)))) (t.no == n)
    where
      either : option_and_then (λ at. slice_get all at) (value_at nat_cmp (numbers_from (place + 1) ts) n) ≡ find_txn ts n
          → (b : Bool) → option_and_then (λ at. slice_get all at) (cond b (Some place) (value_at nat_cmp (numbers_from (place + 1) ts) n)) ≡ cond b (Some t) (find_txn ts n)
      either rest true = stands 0 place (omega arith)
      either rest false = rest

-- each transaction is found by its number
pub txn_found : (n : ℕ) (ts : List Txn) → option_and_then (λ place. slice_get ts place) (value_at nat_cmp (numbers_from 0 ts) n) ≡ find_txn ts n
txn_found n ts = found_from n ts 0 ts (λ k at is. ap (slice_get ts) is ∙ ap (slice_get ts) (zero-add k))
