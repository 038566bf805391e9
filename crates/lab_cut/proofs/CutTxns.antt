-- The transactions of a cut are parts of the whole's.
use Rattle.std.proofs.{Common.{◌≡◌, inl, ℕ, zero, suc, ◌+◌, ◌≤◌, Bool, true, false, cond, List, [], ◌∷◌, map, length, Option, Some, None, refl, sym, ap, ◌∙◌, subst, arith, add-one, zero-add, eq-eqb, ne_eqb}, lemmas.Option.{same_Some, none-some}}
use Rattle.std.specs.{Prelude.{option_and_then, unwrap_or, drop, slice_get}, List.{cons_option}}
use Rattle.std.specs.FinMap as finite
use Rattle.lab_table.{specs.Row.{Row, row_cmp}, proofs.Tests.{mapped_some}}
use Rattle.lab_history.specs.{Version.{place_in}, VersionName.{View}, declared.{transaction.Txn.{Txn}, operation.{Op.{Op}, VersionName.{VersionName, TheVariants.{Initial, Of}}}}}
use Rattle.lab_cut.specs.PartOf.{IsSublistBy, numbered, named_in_whole, IsOpPart, IsOpAt, IsTxnPart}
use Rattle.lab_cut.specs.Left.{next_kept, left_of}
use Rattle.lab_cut.specs.Kept.{kept_of, new_numbers, number_at, number_of}
use Rattle.lab_cut.specs.Cut.{number_after, renamed, left_view, left_op, txn_of, left_txns}
use Rattle.lab_cut.specs.MadeEntries.{made_entries}
use Rattle.lab_cut.specs.declared.kept.Kept.{Kept}
use Rattle.lab_cut.proofs.{Sublists.{skipped}, MadeEntries.{made_sorted, find_made}, NewNumbers.{LeadBack, place_behind, place_first, placed_above}, KeptTxns.{AllKept}}

-- the number that an operation had, by what is kept of its transaction
abbrev pub old_number : ℕ → Option Kept → ℕ
old_number zero some = 0
old_number (suc k) None = suc k
old_number (suc k) (Some some) = unwrap_or (place_in some.numbers (suc k)) (suc k)

-- a new number leads back to the old one
number_back : (k new : ℕ) (some : Option Kept) → ((own : Kept) → some ≡ Some own → LeadBack own.numbers)
    → number_after k (option_and_then (λ own. number_at own.numbers k) some) ≡ Some new → old_number new some ≡ k
number_back k zero None leads e = sym (same_Some k 0 e)
number_back k (suc new) None leads e = sym (same_Some k (suc new) e)
number_back zero zero (Some own) leads e = refl
number_back zero (suc new) (Some own) leads e = let same = same_Some 0 (suc new) e in absurd (omega arith)
number_back (suc k) new (Some own) leads e = at (slice_get own.numbers k) refl e
  where
    at : (w : Option ℕ) → slice_get own.numbers k ≡ w → number_after (suc k) w ≡ Some new → old_number new (Some own) ≡ suc k
    at None w e =
        let same : suc k ≡ new = same_Some (suc k) new e in
        subst (λ n. old_number n (Some own) ≡ suc k) same (ap (λ o. unwrap_or o (suc k)) ((leads own refl).past k w))
    at (Some zero) w e = absurd (none-some new (sym (ap (λ b. cond b None (Some 0)) (eq-eqb 0 0 refl)) ∙ e))
    at (Some (suc m)) w e =
        let same : suc m ≡ new = same_Some (suc m) new (sym (ap (λ b. cond b None (Some (suc m))) (ne_eqb (suc m) 0 (λ is. omega arith))) ∙ e) in
        subst (λ n. old_number n (Some own) ≡ suc k) same (ap (λ o. unwrap_or o (suc m)) ((leads own refl).back k m w))

module _ (kept : ℕ → Option Kept) (leads : (n : ℕ) (own : Kept) → kept n ≡ Some own → LeadBack own.numbers) where
  -- the number in the whole
  abbrev pub number : ℕ → ℕ → ℕ
  number n k = old_number k (kept n)

  -- a version under its new name is one of the whole
  name_back : (old new : VersionName) → renamed kept old ≡ Some new → old ≡ named_in_whole number new
  name_back Initial new e = ap (named_in_whole number) (same_Some Initial new e)
  name_back (Of n k) new e =
      let made = mapped_some (λ m. Of n m) (number_after k (number_of kept n k)) new e in
      ap (Of n) (sym (number_back k made.0 (kept n) (leads n) made.1)) ∙ ap (named_in_whole number) made.2

  -- what is left of a view
  view_back : (view : View) (row : Row) (version : VersionName) → finite.get (left_view kept view) row ≡ Some version → finite.get view row ≡ Some (named_in_whole number version)
  view_back view row version e =
      let make = λ (row : Row) (v : VersionName). renamed kept v in
      let sorted = made_sorted make (finite.entries view) (finite.entries_sorted view) in
      let found : option_and_then (make row) (finite.find row_cmp row (finite.entries view)) ≡ Some version =
      sym (find_made make row (finite.entries view) (finite.entries_sorted view)) ∙ sym (finite.get-from_sorted row_cmp (made_entries make (finite.entries view)) row sorted) ∙ e in
      finite.get-entries view row ∙ at (finite.find row_cmp row (finite.entries view)) found
    where
      at : (o : Option VersionName) → option_and_then (renamed kept) o ≡ Some version → o ≡ Some (named_in_whole number version)
      at None e = absurd (none-some version e)
      at (Some old) e = ap Some (name_back old version e)

  op_back : (op : Op) → IsOpPart number (left_op kept op) op
  op_back op = record {
    statement = refl;
    view = λ row v e. view_back op.view row v e;
    rows = λ row v e. e;
    writes = λ row s e. e;
  }

  -- numbers lead on from these: the new ones to the old
  abbrev LeadsFrom : ℕ → ℕ → List ℕ → Type 0
  LeadsFrom n base news = (m p : ℕ) → place_in news (suc m) ≡ Some p → number n (suc m) ≡ base + p

  -- operations that are left stand for those with their old numbers
  abbrev OpsBack : ℕ → ℕ → ℕ → List Op → List Op → Type 0
  OpsBack n last base left ops = IsSublistBy (IsOpAt number n) (numbered (last + 1) (map (left_op kept) left)) (numbered (base + 1) ops)

  op_kept : (n : ℕ) (op : Op) (ops : List Op) (last base : ℕ) (mask : List Bool) → (LeadsFrom n (base + 1) (new_numbers (last + 1) mask ops) → OpsBack n (last + 1) (base + 1) (left_of mask ops) ops)
      → LeadsFrom n base ((last + 1) ∷ new_numbers (last + 1) mask ops) → OpsBack n last base (op ∷ left_of mask ops) (op ∷ ops)
  op_kept n op ops last base mask rest leads =
      let own : number n (last + 1) ≡ base + 1 = ap (number n) (add-one last) ∙ leads last 1 (place_first (last + 1) (suc last) (new_numbers (last + 1) mask ops) (add-one last)) in
      inl (
        (sym own, op_back op),
        rest (λ m p e.
            let more : last + 1 ≤ m = placed_above ops (last + 1) mask m p e in
            leads m (suc p) (place_behind (last + 1) (suc m) p (new_numbers (last + 1) mask ops) (λ same. omega arith) e) ∙ omega arith),
      )

  op_gone : (n : ℕ) (op : Op) (ops : List Op) (last base : ℕ) (mask : List Bool) → (LeadsFrom n (base + 1) (new_numbers last mask ops) → OpsBack n last (base + 1) (left_of mask ops) ops)
      → LeadsFrom n base (0 ∷ new_numbers last mask ops) → OpsBack n last base (left_of mask ops) (op ∷ ops)
  op_gone n op ops last base mask rest leads =
      skipped (IsOpAt number n) (base + 1, op) (numbered (base + 1 + 1) ops) (numbered (last + 1) (map (left_op kept) (left_of mask ops)))
      (rest (λ m p e. leads m (suc p) (place_behind 0 (suc m) p (new_numbers last mask ops) (λ same. omega arith) e) ∙ omega arith))

  ops_back : (n : ℕ) (ops : List Op) (last base : ℕ) (mask : List Bool) → LeadsFrom n base (new_numbers last mask ops) → OpsBack n last base (left_of mask ops) ops
  ops_back n [] last base mask = λ leads. tt
  ops_back n (op ∷ ops) last base mask =
      elim (next_kept mask) as (λ b. LeadsFrom n base (cond b ((last + 1) ∷ new_numbers (last + 1) (drop 1 mask) ops) (0 ∷ new_numbers last (drop 1 mask) ops))
      → OpsBack n last base (cond b (op ∷ left_of (drop 1 mask) ops) (left_of (drop 1 mask) ops)) (op ∷ ops)) [
        | true ↦ op_kept n op ops last base (drop 1 mask) (ops_back n ops (last + 1) (base + 1) (drop 1 mask))
        | false ↦ op_gone n op ops last base (drop 1 mask) (ops_back n ops last (base + 1) (drop 1 mask))
      ]

  -- those of a transaction of which this is kept
  own_ops : (n : ℕ) (mask : List Bool) (ops : List Op) → kept n ≡ Some (kept_of mask ops) → IsSublistBy (IsOpAt number n) (numbered 1 (map (left_op kept) (left_of mask ops))) (numbered 1 ops)
  own_ops n mask ops own = ops_back n ops 0 0 mask (λ m p e.
      ap (old_number (suc m)) own ∙ ap (λ o. unwrap_or o (suc m)) e ∙ sym (zero-add p))

  -- a transaction before others that stand for some
  txn_before : (t : Txn) (ts left : List Txn) (ops : List Op) → IsSublistBy (IsOpAt number t.no) (numbered 1 ops) (numbered 1 t.ops) → IsSublistBy (IsTxnPart number) left ts
      → IsSublistBy (IsTxnPart number) (cons_option (txn_of t.no t.outcome ops) left) (t ∷ ts)
  txn_before t ts left [] own rest = skipped (IsTxnPart number) t ts left rest
  txn_before t ts left (op ∷ ops) own rest = inl (record { no = refl; outcome = refl; ops = own }, rest)

  pub txns_back : (mask : List Bool) (ts : List Txn) → AllKept kept mask ts → IsSublistBy (IsTxnPart number) (left_txns kept mask ts) ts
  txns_back mask [] all = tt
  txns_back mask (t ∷ ts) all =
      txn_before t ts (left_txns kept (drop (length t.ops) mask) ts) (map (left_op kept) (left_of mask t.ops)) (own_ops t.no mask t.ops all.0)
      (txns_back (drop (length t.ops) mask) ts all.1)
