-- The last writes of transactions.
use Rattle.std.proofs.{Common.{◌≡◌, ℕ, suc, ◌+◌, Bool, true, false, cond, ◌==◌, List, [], ◌∷◌, map, Option, Some, None, refl, sym, ap, ◌∙◌, subst, arith}, lemmas.Bool.{eqb-true, or_parts}}
use Rattle.std.specs.{Prelude.{reverse, is_some, option_map}, List.{list_any}, Option.{option_or}, FinMap.{find, get, entries, get-entries}, Ordering.{nat_cmp, is_eq, ordering_then}}
use Rattle.lab_table.specs.Row.{Row, row_cmp}
use Rattle.lab_history.specs.{Index.{txn_row_cmp, written_by, written_from, written}, Keyed.{value_at}, HistoryRules.{AllDistinct}, Version.{find_txn, ops_in, last_write}, VersionName.{new_states}, declared.{operation.{Op.{Op}, State.{State}}, transaction.Txn.{Txn}}}
use Rattle.lab_history.proofs.FirstValues.{same_number, other_row, apart_first, same_first, or_none, value_at-reverse}

-- the rows that are written don't depend on the states
pub written_states : (txn op : ℕ) (es : List (Row × State)) → written_by txn op (new_states es) ≡ written_by txn op es
written_states txn op [] = refl
written_states txn op (e ∷ es) = ap (λ ws. ((txn, e.0), op) ∷ ws) (written_states txn op es)

-- counting on from one more
pub counted : (place : ℕ) (found : Option ℕ) → option_map (λ j. (place + 1) + j) found ≡ option_map (λ j. place + j) (option_map (λ j. suc j) found)
counted place None = refl
counted place (Some j) = ap Some (omega arith)

-- counting from nothing
pub uncounted : (found : Option ℕ) → option_map (λ j. 0 + j) found ≡ found
uncounted None = refl
uncounted (Some j) = ap Some (omega arith)

module _ (n : ℕ) (row : Row) where
  -- the last entry for the transaction and the row
  abbrev last_at : List ((ℕ × Row) × ℕ) → Option ℕ
  last_at ws = value_at txn_row_cmp (reverse ws) (n, row)

  -- an operation of the transaction is found where it writes the row
  by_own : {A : Type 0} (op : ℕ) (es : List (Row × A)) → last_at (written_by n op es) ≡ cond (is_some (find row_cmp row es)) (Some op) None
  by_own op [] = refl
  by_own {A = A} op (e ∷ es) =
      value_at-reverse txn_row_cmp (n, row) (((n, e.0), op) ∷ []) (written_by n op es)
      ∙ ap (λ o. option_or o (cond (is_eq (ordering_then (nat_cmp n n) (row_cmp e.0 row))) (Some op) None)) (by_own op es)
      ∙ ap (λ t. option_or (cond (is_some (find row_cmp row es)) (Some op) None) (cond t (Some op) None)) (same_first n (row_cmp e.0 row) ∙ other_row e.0 row)
      ∙ either (is_eq (row_cmp row e.0)) (find row_cmp row es)
    where
      either : (t : Bool) (rest : Option A) → option_or (cond (is_some rest) (Some op) None) (cond t (Some op) None) ≡ cond (is_some (cond t (Some e.1) rest)) (Some op) None
      either true None = refl
      either true (Some x) = refl
      either false None = refl
      either false (Some x) = refl

  -- an operation of another transaction isn't found
  by_other : {A : Type 0} (m op : ℕ) → is_eq (nat_cmp m n) ≡ false → (es : List (Row × A)) → last_at (written_by m op es) ≡ None
  by_other m op other [] = refl
  by_other m op other (e ∷ es) =
      value_at-reverse txn_row_cmp (n, row) (((m, e.0), op) ∷ []) (written_by m op es)
      ∙ ap (λ o. option_or o (cond (is_eq (ordering_then (nat_cmp m n) (row_cmp e.0 row))) (Some op) None)) (by_other m op other es)
      ∙ ap (λ t. cond t (Some op) None) (apart_first (nat_cmp m n) (row_cmp e.0 row) other)

  -- the last of the transaction's operations that write the row is found
  from_own : (place : ℕ) (ops : List Op) → last_at (written_from n place ops) ≡ option_map (λ j. place + j) (last_write ops row)
  from_own place [] = refl
  from_own place (op ∷ ops) =
      value_at-reverse txn_row_cmp (n, row) (written_by n (place + 1) (entries op.writes)) (written_from n (place + 1) ops)
      ∙ ap (λ o. option_or o (last_at (written_by n (place + 1) (entries op.writes)))) (from_own (place + 1) ops ∙ counted place (last_write ops row))
      ∙ ap (option_or (option_map (λ j. place + j) (option_map (λ j. suc j) (last_write ops row))))
      (by_own (place + 1) (entries op.writes) ∙ ap (λ o. cond (is_some o) (Some (place + 1)) None) (sym (get-entries op.writes row)))
      ∙ either (is_some (get op.writes row)) (option_map (λ j. suc j) (last_write ops row))
    where
      either : (t : Bool) (rest : Option ℕ) → option_or (option_map (λ j. place + j) rest) (cond t (Some (place + 1)) None) ≡ option_map (λ j. place + j) (option_or rest (cond t (Some 1) None))
      either t (Some x) = refl
      either true None = refl
      either false None = refl

  -- another transaction isn't found
  from_other : (m place : ℕ) → is_eq (nat_cmp m n) ≡ false → (ops : List Op) → last_at (written_from m place ops) ≡ None
  from_other m place other [] = refl
  from_other m place other (op ∷ ops) =
      value_at-reverse txn_row_cmp (n, row) (written_by m (place + 1) (entries op.writes)) (written_from m (place + 1) ops)
      ∙ ap (λ o. option_or o (last_at (written_by m (place + 1) (entries op.writes)))) (from_other m (place + 1) other ops)
      ∙ by_other m (place + 1) other (entries op.writes)

  -- a number that no transaction has isn't found
  none_found : (ts : List Txn) → list_any (λ m. m == n) (map (λ t. t.no) ts) ≡ false → last_at (written ts) ≡ None
  none_found [] h = refl
  none_found (t ∷ ts) h =
      value_at-reverse txn_row_cmp (n, row) (written_from t.no 0 t.ops) (written ts)
      ∙ ap (λ o. option_or o (last_at (written_from t.no 0 t.ops))) (none_found ts (or_parts (t.no == n) (list_any (λ m. m == n) (map (λ t. t.no) ts)) h).1)
      ∙ from_other t.no 0 (same_number t.no n ∙ (or_parts (t.no == n) (list_any (λ m. m == n) (map (λ t. t.no) ts)) h).0) t.ops

  -- a transaction's last write of a row is found
  pub last_found : (ts : List Txn) → AllDistinct (map (λ t. t.no) ts) → last_at (written ts) ≡ last_write (ops_in (find_txn ts n)) row
  last_found [] h = refl
  last_found (t ∷ ts) h =
      value_at-reverse txn_row_cmp (n, row) (written_from t.no 0 t.ops) (written ts) ∙ at (last_found ts h.1) (t.no == n) refl
    where
      at : last_at (written ts) ≡ last_write (ops_in (find_txn ts n)) row → (b : Bool) → (t.no == n) ≡ b
          → option_or (last_at (written ts)) (last_at (written_from t.no 0 t.ops)) ≡ last_write (ops_in (cond b (Some t) (find_txn ts n))) row
      at rest true own =
          let same : t.no ≡ n = eqb-true t.no n own in
          ap (λ o. option_or o (last_at (written_from t.no 0 t.ops))) (none_found ts (subst (λ m. list_any (λ k. k == m) (map (λ t. t.no) ts) ≡ false) same h.0))
          ∙ ap (λ m. last_at (written_from m 0 t.ops)) same ∙ from_own 0 t.ops ∙ uncounted (last_write t.ops row)
      at rest false other =
          ap (option_or (last_at (written ts))) (from_other t.no 0 (same_number t.no n ∙ other) t.ops) ∙ or_none (last_at (written ts)) ∙ rest
