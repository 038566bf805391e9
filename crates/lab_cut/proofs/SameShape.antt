-- Parts with the same transactions and operations, whose lists are shorter.
use Rattle.std.{proofs.Common.{◌≡◌, inl, ℕ, ◌+◌, Bool, true, false, cond, List, [], ◌∷◌, map, length, Some, None, refl, sym, ap, ◌∙◌, subst}, specs.{Prelude.{drop, unwrap_or}, FinMap.Entries.{where_key, is_sorted-where_key, find-where_key}, declared.cmp.Ordering.TheVariants.{Equal}}}
use Rattle.std.specs.FinMap as finite
use Rattle.lab_table.{specs.Row.{Row, row_cmp, rows_apart}, proofs.{Maps.{same_rows}, Tests.{under_condition}}}
use Rattle.lab_history.specs.{History.{History}, Version.{installers}, declared.{transaction.Txn.{Txn}, operation.Op.{Op}}}
use Rattle.lab_cut.specs.{PartOf.{IsSublistBy, IsSublist, numbered, IsOpPart, IsOpAt, IsTxnPart, initial, in_the_end, IsPartOf}, Left.{left_of}, InRows.{op_in_rows, txn_in_rows, in_rows}, Seen.{op_seeing, ops_seeing, behind_views, txns_seeing, seeing}}
use Rattle.lab_cut.proofs.{MadeEntries.{left_sorted, find_left}, PartLaws.{same_name}, Sublists.{whole_list}}

-- the number of an operation is its own
abbrev own_number : ℕ → ℕ → ℕ
own_number n k = k

-- each operation is a part of the one at its place
abbrev Aligned : List Op → List Op → Type 0
Aligned [] [] = Unit {0}
Aligned [] (op ∷ ops) = ⊥
Aligned (part ∷ parts) [] = ⊥
Aligned (part ∷ parts) (op ∷ ops) = IsOpPart own_number part op × Aligned parts ops

aligned_numbers : (n j : ℕ) (parts ops : List Op) → Aligned parts ops → IsSublistBy (IsOpAt own_number n) (numbered j parts) (numbered j ops)
aligned_numbers n j [] ops h = tt
aligned_numbers n j (part ∷ parts) [] h = absurd h
aligned_numbers n j (part ∷ parts) (op ∷ ops) h = inl ((refl, h.0), aligned_numbers n (j + 1) parts ops h.1)

-- ---- some rows

module _ (test : Row → Bool) where
  alike : (q x : Row) → row_cmp q x ≡ Equal → test x ≡ test q
  alike q x e = sym (ap test (rows_apart q x e))

  get-retained : {X : Type 0} (m : finite.FinMap row_cmp X) (q : Row) → finite.get (finite.retain_keys m test) q ≡ cond (test q) (finite.get m q) None
  get-retained m q = finite.get-retain_keys m test q (alike q)

  -- what is found in some rows was found
  pub retained_had : {X : Type 0} (m : finite.FinMap row_cmp X) (q : Row) (x : X) → finite.get (finite.retain_keys m test) q ≡ Some x → finite.get m q ≡ Some x
  retained_had m q x e = (under_condition (test q) (finite.get m q) x (sym (get-retained m q) ∙ e)).1

  -- the entries of some rows are those rows
  pub retained : {X : Type 0} (m : finite.FinMap row_cmp X) → finite.from_sorted {R = row_cmp} (where_key row_cmp test (finite.entries m)) ≡ finite.retain_keys m test
  retained m = same_rows _ _ (λ q.
      finite.get-from_sorted row_cmp (where_key row_cmp test (finite.entries m)) q (is_sorted-where_key row_cmp test (finite.entries m) (finite.entries_sorted m))
      ∙ find-where_key row_cmp test q (alike q) (finite.entries m)
      ∙ ap (λ o. cond (test q) o None) (sym (finite.get-entries m q))
      ∙ sym (get-retained m q))

  op_part : (op : Op) → IsOpPart own_number (op_in_rows test op) op
  op_part op = record {
    statement = refl;
    view = λ row v e. retained_had op.view row v e ∙ ap Some (sym (same_name v));
    rows = λ row v e. retained_had op.rows row v e;
    writes = λ row s e. retained_had op.writes row s e;
  }

  ops_aligned : (ops : List Op) → Aligned (map (op_in_rows test) ops) ops
  ops_aligned [] = tt
  ops_aligned (op ∷ ops) = (op_part op, ops_aligned ops)

  txns_part : (ts : List Txn) → IsSublistBy (IsTxnPart own_number) (map (txn_in_rows test) ts) ts
  txns_part [] = tt
  txns_part (t ∷ ts) = inl (record { no = refl; outcome = refl; ops = aligned_numbers t.no 1 (map (op_in_rows test) t.ops) t.ops (ops_aligned t.ops) }, txns_part ts)

  installers_part : (h : History) (row : Row) → IsSublist (installers (in_rows test h) row) (installers h row)
  installers_part h row = subst (λ o. IsSublist (unwrap_or o []) (installers h row)) (sym (get-retained h.installed row)) (at (test row))
    where
      at : (b : Bool) → IsSublist (unwrap_or (cond b (finite.get h.installed row) None) []) (installers h row)
      at true = whole_list (installers h row)
      at false = tt

  pub rows_part : (h : History) → IsPartOf (in_rows test h) h
  rows_part h = record {
    number = own_number;
    txns = txns_part h.txns;
    installed = installers_part h;
    initial = λ row v e. initial (retained_had h.initial row (v) e);
    ends = λ row v e. in_the_end (retained_had h.end_table row (v) e);
  }

-- ---- some entries of views

seen_part : (mask : List Bool) (op : Op) → IsOpPart own_number (op_seeing mask op) op
seen_part mask op = record {
  statement = refl;
  view = λ row v e.
      let es = finite.entries op.view in
      let sorted = finite.entries_sorted op.view in
      finite.get-entries op.view row
      ∙ find_left row v mask es sorted (sym (finite.get-from_sorted row_cmp (left_of mask es) row (left_sorted mask es sorted)) ∙ e)
      ∙ ap Some (sym (same_name v));
  rows = λ row v e. e;
  writes = λ row s e. e;
}

seen_aligned : (mask : List Bool) (ops : List Op) → Aligned (ops_seeing mask ops) ops
seen_aligned mask [] = tt
seen_aligned mask (op ∷ ops) = (seen_part mask op, seen_aligned (drop (length (finite.entries op.view)) mask) ops)

seen_txns : (mask : List Bool) (ts : List Txn) → IsSublistBy (IsTxnPart own_number) (txns_seeing mask ts) ts
seen_txns mask [] = tt
seen_txns mask (t ∷ ts) =
    inl (record { no = refl; outcome = refl; ops = aligned_numbers t.no 1 (ops_seeing mask t.ops) t.ops (seen_aligned mask t.ops) }, seen_txns (behind_views mask t.ops) ts)

pub entries_part : (mask : List Bool) (h : History) → IsPartOf (seeing mask h) h
entries_part mask h = record {
  number = own_number;
  txns = seen_txns mask h.txns;
  installed = λ row. whole_list (installers h row);
  initial = λ row v e. initial e;
  ends = λ row v e. in_the_end e;
}
