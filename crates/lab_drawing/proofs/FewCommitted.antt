-- The committed transactions are no more than a history may have.
use Rattle.std.{proofs.Common.{◌≡◌, ℕ, ◌≤◌, true, false, cond, List, [], ◌∷◌, length, map, filter, subst, sym, arith}}
use Rattle.lab_history.specs.{History.{History}, HistoryRules.{Keeps}, Version.{outcome_of}, declared.transaction.Txn.{Txn}}
use Rattle.lab_deps.specs.Soundness.{has_committed}
use Rattle.lab_drawing.specs.Dependence.{committed}

fewer : (h : History) (ts : List Txn) → length (map (λ (t : Txn). t.no) (filter (λ (t : Txn). has_committed (outcome_of h t.no)) ts)) ≤ length ts
fewer h [] = omega arith
fewer h (t ∷ ts) =
    let rest = fewer h ts in
    elim (has_committed (outcome_of h t.no)) as (λ b. length (map (λ (t : Txn). t.no) (cond b (t ∷ filter (λ (t : Txn). has_committed (outcome_of h t.no)) ts) (filter (λ (t : Txn). has_committed (outcome_of h t.no)) ts))) ≤ length (t ∷ ts)) [
      | true ↦ omega (arith, rest)
      | false ↦ omega (arith, rest)
    ]

pub few_committed : (h : History) (numbers : List ℕ) → Keeps h → numbers ≡ committed h → length numbers ≤ 1000
few_committed h numbers keeps are = subst (λ ns. length ns ≤ 1000) (sym are) (few (length (committed h)) (length h.txns) (fewer h h.txns) keeps.transactions)
  where
    few : (a b : ℕ) → a ≤ b → b ≤ 1000 → a ≤ 1000
    few a b l m = omega (arith, l, m)
