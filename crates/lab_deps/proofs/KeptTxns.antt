-- The transactions that a history has are found by their numbers.
use Rattle.std.proofs.{Common.{◌≡◌, ℕ, zero, suc, ◌<◌, ◌≤◌, ◌==◌, true, false, cond, Some, List, [], ◌∷◌, length, length-append, get_or, refl, sym, ap, ◌∙◌, map, arith}, lemmas.{Bool.{false≢true, eqb-true, eq-eqb, or_parts}, Option.{none-some, same_Some, slice_get_read}}}
use Rattle.std.specs.{Prelude.{slice_get}, List.{list_any}}
use Rattle.lab_history.specs.{History.{History}, HistoryRules.{AllDistinct, Keeps, operations}, Version.{find_txn}, declared.transaction.Txn.{Txn}}
use Rattle.lab_deps.specs.{Search.{IsTxnOf}, FaultOrder.{place_among}}

-- a number that none of some transactions has isn't that of one of them
other_number : (n : ℕ) (ts : List Txn) (i : ℕ) (t : Txn) → list_any (λ m. m == n) (map (λ t. t.no) ts) ≡ false → slice_get ts i ≡ Some t → (t.no ≡ n) → ⊥
other_number n [] i t none g e = none-some t g
other_number n (u ∷ ts) zero t none g e =
    false≢true (sym (or_parts (u.no == n) (list_any (λ m. m == n) (map (λ t. t.no) ts)) none).0 ∙ eq-eqb u.no n (ap (λ x. x.no) (same_Some u t g) ∙ e))
other_number n (u ∷ ts) (suc i) t none g e = other_number n ts i t (or_parts (u.no == n) (list_any (λ m. m == n) (map (λ t. t.no) ts)) none).1 g e

found_at : (ts : List Txn) (i : ℕ) (t : Txn) → AllDistinct (map (λ t. t.no) ts) → slice_get ts i ≡ Some t → find_txn ts t.no ≡ Some t
found_at [] i t distinct g = absurd (none-some t g)
found_at (u ∷ ts) zero t distinct g = ap (λ b. cond b (Some u) (find_txn ts t.no)) (eq-eqb u.no t.no (ap (λ x. x.no) (same_Some u t g))) ∙ g
found_at (u ∷ ts) (suc i) t distinct g =
    elim (u.no == t.no) as (λ b. (u.no == t.no) ≡ b → cond b (Some u) (find_txn ts t.no) ≡ Some t) [
      | true ↦ λ same. absurd (other_number u.no ts i t distinct.0 g (sym (eqb-true u.no t.no same)))
      | false ↦ λ _. found_at ts i t distinct.1 g
    ] refl

-- and as many stand before it in the file as before its place
place_at : (ts : List Txn) (i : ℕ) (t : Txn) → AllDistinct (map (λ t. t.no) ts) → slice_get ts i ≡ Some t → place_among ts t.no ≡ i
place_at [] i t distinct g = absurd (none-some t g)
place_at (u ∷ ts) zero t distinct g = ap (λ b. cond b 0 (suc (place_among ts t.no))) (eq-eqb u.no t.no (ap (λ x. x.no) (same_Some u t g)))
place_at (u ∷ ts) (suc i) t distinct g =
    elim (u.no == t.no) as (λ b. (u.no == t.no) ≡ b → cond b 0 (suc (place_among ts t.no)) ≡ suc i) [
      | true ↦ λ same. absurd (other_number u.no ts i t distinct.0 g (sym (eqb-true u.no t.no same)))
      | false ↦ λ _. ap (λ p. suc p) (place_at ts i t distinct.1 g)
    ] refl

few_at : (ts : List Txn) (i : ℕ) (t : Txn) → slice_get ts i ≡ Some t → length t.ops ≤ length (operations ts)
few_at [] i t g = absurd (none-some t g)
few_at (u ∷ ts) zero t g = omega (arith, length-append u.ops (operations ts), ap (λ x. length x.ops) (same_Some u t g))
few_at (u ∷ ts) (suc i) t g = omega (arith, length-append u.ops (operations ts), few_at ts i t g)

module _ (h : History) (ts : List Txn) (i : ℕ) (t : Txn) (keeps : Keeps h) (same : ts ≡ h.txns) (l : i < length ts) (e : t ≡ get_or ts i t) where
  there : slice_get h.txns i ≡ Some t
  there = ap (λ ts. slice_get ts i) (sym same) ∙ slice_get_read ts (length ts) i t refl l e

  -- the transaction at a place of these, which are the history's
  pub txn_at : IsTxnOf h t
  txn_at = record { found = found_at h.txns i t keeps.distinct there; few = within (length t.ops) (length (operations h.txns)) (few_at h.txns i t there) keeps.few_operations }
    where
      within : (a b : ℕ) → a ≤ b → b ≤ 10000 → a ≤ 10000
      within a b l m = omega arith

  -- and its place
  pub place_there : place_among h.txns t.no ≡ i
  place_there = place_at h.txns i t keeps.distinct there
