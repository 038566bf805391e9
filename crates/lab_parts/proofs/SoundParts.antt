-- What a sound history's rows and operations are like.
use Rattle.std.proofs.{Common.{◌≡◌, ◌≢◌, ℕ, zero, suc, ◌<◌, ◌≤◌, Bool, true, false, cond, Option, Some, None, List, [], ◌∷◌, length, inl, inr, refl, sym, ap, ◌∙◌, arith}, lemmas.{Bool.{false≢true, and_parts, cases_lt, Decides.{Decides-int_eq}}, Option.{none-some, same_Some}}}
use Rattle.std.specs.{Prelude.{ℤ, slice_get, is_some, option_map, option_and_then}, Option.{option_or}, Ordering.{int_eq}, FinMap.{get}}
use Rattle.lab_table.{specs.{Row.{Row}, Table.{State}}, proofs.Tests.{some_of}}
use Rattle.lab_history.specs.History.{History}
use Rattle.lab_history.specs.Version.{IsCommitted, ops_in, ops_of, op_at, outcome_of, viewed, version_state, new_state, last_write, writes_row, installers, state_at}
use Rattle.lab_history.specs.declared.{operation.{Op.{Op}, VersionName.TheVariants.{Of}}, transaction.Outcome.{Outcome, TheVariants.{Committed, Aborted}}}
use Rattle.lab_deps.{specs.Soundness.{IsSound, IsCommittedOp, has_committed, is_writer}, proofs.Places.{stable_nat, times, times_count, at_times}}
use Rattle.lab_deps.specs.declared.fault.LocalFault.TheVariants as fault
use Rattle.lab_parts.{specs.Whole.{above_all}, proofs.{JoinedTxns.{none_above, committed_below}, JoinedLists.{IsBelow}}}

-- values that can't differ are the same
stable_int : (x y : ℤ) → ((x ≢ y) → ⊥) → x ≡ y
stable_int x y h =
    elim (int_eq x y) as (λ b. int_eq x y ≡ b → x ≡ y) [
      | true ↦ λ t. (Decides-int_eq x y).0 t
      | false ↦ λ f. absurd (h (λ same. false≢true (sym f ∙ (Decides-int_eq x y).1 same)))
    ] refl

-- nor can states
pub stable_state : (s t : State) → ((s ≢ t) → ⊥) → s ≡ t
stable_state None None h = refl
stable_state None (Some y) h = absurd (h (none-some y))
stable_state (Some x) None h = absurd (h (λ e. none-some x (sym e)))
stable_state (Some x) (Some y) h = ap Some (stable_int x y (λ apart. h (λ same. apart (same_Some x y same))))

-- the last write of a row is a write of it
last_writes : (row : Row) (ops : List Op) (j : ℕ) → last_write ops row ≡ Some j → (s : State) × (option_and_then (λ op. new_state op row) (op_at ops j) ≡ Some s)
last_writes row [] j e = absurd (none-some j e)
last_writes row (op ∷ ops) j e = of (last_writes row ops) (last_write ops row) refl e
  where
    here : (o : Option State) → new_state op row ≡ o → cond (is_some o) (Some 1) None ≡ Some j → (s : State) × (option_and_then (λ op. new_state op row) (op_at (op ∷ ops) j) ≡ Some s)
    here None w e = absurd (none-some j e)
    here (Some s) w e = (s, ap (λ i. option_and_then (λ op. new_state op row) (op_at (op ∷ ops) i)) (sym (same_Some 1 j e)) ∙ w)

    later : (i : ℕ) → (s : State) × (option_and_then (λ op. new_state op row) (op_at ops i) ≡ Some s) → (s : State) × (option_and_then (λ op. new_state op row) (op_at (op ∷ ops) (suc i)) ≡ Some s)
    later zero (s, w) = absurd (none-some s w)
    later (suc i) (s, w) = (s, w)

    of : ((i : ℕ) → last_write ops row ≡ Some i → (s : State) × (option_and_then (λ op. new_state op row) (op_at ops i) ≡ Some s)) → (o : Option ℕ) → last_write ops row ≡ o
        → option_or (option_map (λ k. suc k) o) (cond (is_some (new_state op row)) (Some 1) None) ≡ Some j
        → (s : State) × (option_and_then (λ op. new_state op row) (op_at (op ∷ ops) j) ≡ Some s)
    of below None l e = here (new_state op row) refl e
    of below (Some i) l e =
        let found = later i (below i l) in
        (found.0, ap (λ i. option_and_then (λ op. new_state op row) (op_at (op ∷ ops) i)) (sym (same_Some (suc i) j e)) ∙ found.1)

-- who has committed
committed_end : (o : Option Outcome) → has_committed o ≡ true → o ≡ Some Committed
committed_end None t = absurd (false≢true t)
committed_end (Some Committed) t = refl
committed_end (Some Aborted) t = absurd (false≢true t)

-- an installer of a row has committed, and has a last write of it
pub record Installer (h : History) (row : Row) (n : ℕ) : Type 0 where
  pub committed : IsCommitted h n
  pub place : ℕ
  pub last_is : last_write (ops_of h n) row ≡ Some place
  pub state : State
  pub state_is : version_state h row (Of n place) ≡ Some state

module _ (h : History) (sound : IsSound h) where
  -- each committed writer of a row is an installer once, and nobody else
  pub counted : (row : Row) (n : ℕ) → times n (installers h row) ≡ cond (is_writer h row n) 1 0
  counted row n = stable_nat (times n (installers h row)) (cond (is_writer h row n) 1 0) (λ apart. sound (fault.InstallOrder row) (n, λ same. apart (times_count n (installers h row) ∙ same)))

  pub counted_once : (row : Row) (n : ℕ) → times n (installers h row) ≤ 1
  counted_once row n = at_most (is_writer h row n) (times n (installers h row)) (counted row n)
    where
      at_most : (b : Bool) (m : ℕ) → m ≡ cond b 1 0 → m ≤ 1
      at_most true m e = omega (arith, e)
      at_most false m e = omega (arith, e)

  -- the end table is what the last installers left
  pub ended : (row : Row) → get h.end_table row ≡ state_at h row (length (installers h row))
  ended row = stable_state (get h.end_table row) (state_at h row (length (installers h row))) (λ apart. sound (fault.EndDiffers row) apart)

  pub installer : (row : Row) (p n : ℕ) → slice_get (installers h row) p ≡ Some n → Installer h row n
  installer row p n at =
      let writer : is_writer h row n ≡ true = is_one (is_writer h row n) (times n (installers h row)) (at_times (installers h row) p n at) (counted row n) in
      let parts = and_parts (has_committed (outcome_of h n)) (writes_row h n row) writer in
      let last = some_of (last_write (ops_of h n) row) parts.1 in
      let state = last_writes row (ops_of h n) last.0 last.1 in
      record { committed = committed_end (outcome_of h n) parts.0; place = last.0; last_is = last.1; state = state.0; state_is = state.1 }
    where
      is_one : (b : Bool) (m : ℕ) → 1 ≤ m → m ≡ cond b 1 0 → b ≡ true
      is_one true m l e = refl
      is_one false m l e = absurd (omega (arith, l, e))

  pub installers_below : (row : Row) → IsBelow (above_all h.txns) (installers h row)
  installers_below row p n at = committed_below h n (installer row p n at).committed

  -- a version that a committed operation sees is of a number below those behind the history
  pub sees_below : (n k : ℕ) (op : Op) (row : Row) (m j : ℕ) → IsCommittedOp h n k op → viewed op row ≡ Of m j → m < above_all h.txns
  sees_below n k op row m j is_op views = elim (cases_lt m (above_all h.txns)) [
    | inl less ↦ less
    | inr le ↦ absurd (sound (fault.Dangling n k row) (op, is_op, (m, j, views, inl (ap (λ t. option_and_then (λ op. new_state op row) (op_at (ops_in t) j)) (none_above h.txns m le) ∙ no_op j))))
  ]
    where
      no_op : (j : ℕ) → ◌≡◌ {A = Option State} (option_and_then (λ op. new_state op row) (op_at [] j)) None
      no_op zero = refl
      no_op (suc j) = refl
