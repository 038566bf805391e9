-- States that are found in a history are states that its rows have.
use Rattle.std.{proofs.{Common.{◌≡◌, ℕ, zero, suc, ℤ, Bool, true, false, cond, ◌==◌, List, [], ◌∷◌, Option, Some, None, refl, ap, ◌∙◌, subst}, lemmas.Option.{same_Some, none-some}}, specs.Prelude.{Contains, option_and_then, unwrap_or}}
use Rattle.lab_table.{specs.Row.{Row}, proofs.Members.{first_member, later_member, member_at}}
use Rattle.lab_history.specs.{History.{History}, Version.{find_txn, ops_in, op_at, new_state, version_state}, declared.{operation.{Op.{Op}, VersionName.TheVariants.{Of}}, transaction.Txn.{Txn}}}
use Rattle.lab_cut.specs.{PartOf.{HasState, written}, Cut.{state_by}}

-- a transaction that is found by its number is one of them
txn_there : (ts : List Txn) (n : ℕ) (t : Txn) → find_txn ts n ≡ Some t → Contains ts t
txn_there [] n t = λ e. absurd (none-some t e)
txn_there (u ∷ ts) n t = at (txn_there ts n t) (u.no == n)
  where
    at : (find_txn ts n ≡ Some t → Contains ts t) → (b : Bool) → cond b (Some u) (find_txn ts n) ≡ Some t → Contains (u ∷ ts) t
    at rest true e = subst (Contains (u ∷ ts)) (same_Some u t e) (first_member u ts)
    at rest false e = later_member u ts t (rest e)

-- an operation that is found by its number is one of them
op_there : (ops : List Op) (k : ℕ) (op : Op) → op_at ops k ≡ Some op → Contains ops op
op_there ops zero op e = absurd (none-some op e)
op_there ops (suc k) op e = member_at ops k op e

module _ (h : History) (row : Row) (state : Option ℤ) where
  written_by_found : (k : ℕ) (found : Option Txn) → ((t : Txn) → found ≡ Some t → Contains h.txns t)
      → option_and_then (λ op. new_state op row) (op_at (ops_in found) k) ≡ Some state → HasState h row state
  written_by_found zero found there e = absurd (none-some state e)
  written_by_found (suc k) None there e = absurd (none-some state e)
  written_by_found (suc k) (Some t) there e = at (op_at t.ops (suc k)) refl e
    where
      at : (o : Option Op) → op_at t.ops (suc k) ≡ o → option_and_then (λ op. new_state op row) o ≡ Some state → HasState h row state
      at None w e = absurd (none-some state e)
      at (Some op) w e = written t op (there t refl) (op_there t.ops (suc k) op w) e

  -- a version's state is one that an operation writes
  version_had : (n k : ℕ) → version_state h row (Of n k) ≡ Some state → HasState h row state
  version_had n k e = written_by_found k (find_txn h.txns n) (txn_there h.txns n) e

-- a present row's state by an operation is one that it has
pub state_had : (h : History) (row : Row) (value : ℤ) (n : ℕ) (k : Option ℕ) → state_by h row n k ≡ Some value → HasState h row (Some value)
state_had h row value n None e = absurd (none-some value e)
state_had h row value n (Some k) e = at (version_state h row (Of n k)) refl e
  where
    at : (o : Option (Option ℤ)) → version_state h row (Of n k) ≡ o → unwrap_or o None ≡ Some value → HasState h row (Some value)
    at None w e = absurd (none-some value e)
    at (Some s) w e = version_had h row (Some value) n k (w ∙ ap Some e)
