-- Parts of histories, and parts of these.
use Rattle.std.{proofs.{Common.{◌≡◌, inl, ℕ, zero, suc, ◌+◌, ℤ, List, [], ◌∷◌, Option, Some, refl, sym, ap, ◌∙◌}, lemmas.Option.{same_Some, none-some}}, specs.Prelude.{Contains, slice_get}}
use Rattle.std.specs.FinMap as map
use Rattle.lab_table.{specs.Row.{Row}, proofs.Members.{member_at, place_of_member}}
use Rattle.lab_history.specs.{History.{History}, Version.{installers}, declared.{transaction.Txn.{Txn}, operation.{Op.{Op}, VersionName.{VersionName, TheVariants.{Initial, Of}}}}}
use Rattle.lab_cut.{specs.PartOf.{IsSublistBy, numbered, named_in_whole, IsOpPart, IsOpAt, IsTxnPart, HasState, initial, in_the_end, written, IsPartOf}, proofs.Sublists.{stands_for, through, whole_list, of_sublist}}

-- ---- operations with their numbers

-- an operation has a number
pub has_number : (ops : List Op) (j k : ℕ) (op : Op) → slice_get ops k ≡ Some op → (m : ℕ) × (slice_get (numbered j ops) k ≡ Some (m, op))
has_number [] j k op e = absurd (none-some op e)
has_number (o ∷ ops) j zero op e = (j, ap (λ (x : Op). Some (j, x)) (same_Some o op e))
has_number (o ∷ ops) j (suc k) op e = has_number ops (j + 1) k op e

-- what has a number is an operation
pub is_numbered : (ops : List Op) (j k : ℕ) (e : ℕ × Op) → slice_get (numbered j ops) k ≡ Some e → slice_get ops k ≡ Some e.1
is_numbered [] j k e is = absurd (none-some e is)
is_numbered (o ∷ ops) j zero e is = ap (λ (x : ℕ × Op). Some x.1) (same_Some (j, o) e is)
is_numbered (o ∷ ops) j (suc k) e is = is_numbered ops (j + 1) k e is

-- ---- names of versions

-- a version under the number that it has
pub same_name : (v : VersionName) → named_in_whole (λ n k. k) v ≡ v
same_name Initial = refl
same_name (Of n k) = refl

-- a version of a part of a part
pub name_through : (inner outer : ℕ → ℕ → ℕ) (v : VersionName) → named_in_whole outer (named_in_whole inner v) ≡ named_in_whole (λ n k. outer n (inner n k)) v
name_through inner outer Initial = refl
name_through inner outer (Of n k) = refl

-- ---- a history is a part of itself

-- each numbered operation stands for itself
whole_ops : (n j : ℕ) (ops : List Op) → IsSublistBy (IsOpAt (λ n k. k) n) (numbered j ops) (numbered j ops)
whole_ops n j [] = tt
whole_ops n j (op ∷ ops) =
    inl (
      (
        refl,
        record {
          statement = refl;
          view = λ row v e. e ∙ ap Some (sym (same_name v));
          rows = λ row v e. e;
          writes = λ row s e. e;
        },
      ),
      whole_ops n (j + 1) ops,
    )

whole_txns : (ts : List Txn) → IsSublistBy (IsTxnPart (λ n k. k)) ts ts
whole_txns [] = tt
whole_txns (t ∷ ts) = inl (record { no = refl; outcome = refl; ops = whole_ops t.no 1 t.ops }, whole_txns ts)

pub whole_part : (h : History) → IsPartOf h h
whole_part h = record {
  number = λ n k. k;
  txns = whole_txns h.txns;
  installed = λ row. whole_list (installers h row);
  initial = λ row v e. initial e;
  ends = λ row v e. in_the_end e;
}

-- ---- what is a part of a part is a part

module _ (inner outer : ℕ → ℕ → ℕ) where
  -- the numbers through the part
  abbrev both_numbers : ℕ → ℕ → ℕ
  both_numbers n k = outer n (inner n k)

  op_through : (a b c : Op) → IsOpPart inner a b → IsOpPart outer b c → IsOpPart both_numbers a c
  op_through a b c p q = record {
    statement = p.statement ∙ q.statement;
    view = λ row v e. q.view row (named_in_whole inner v) (p.view row v e) ∙ ap Some (name_through inner outer v);
    rows = λ row v e. q.rows row v (p.rows row v e);
    writes = λ row s e. q.writes row s (p.writes row s e);
  }

  at_through : (m n : ℕ) → m ≡ n → (a b c : ℕ × Op) → IsOpAt inner m a b → IsOpAt outer n b c → IsOpAt both_numbers n a c
  at_through m n same a b c p q =
      (q.0 ∙ ap (outer n) p.0 ∙ ap (λ x. outer n (inner x a.0)) same, op_through a.1 b.1 c.1 p.1 q.1)

  txn_through : (a b c : Txn) → IsTxnPart inner a b → IsTxnPart outer b c → IsTxnPart both_numbers a c
  txn_through a b c p q = record {
    no = p.no ∙ q.no;
    outcome = p.outcome ∙ q.outcome;
    ops = through (IsOpAt inner b.no) (IsOpAt outer c.no) (IsOpAt both_numbers c.no) (at_through b.no c.no q.no) (numbered 1 c.ops) (numbered 1 b.ops) (numbered 1 a.ops) p.ops q.ops;
  }

-- what an operation of a part writes, one of the whole does
pub written_in_whole : (part h : History) → IsPartOf part h → (row : Row) (state : Option ℤ) (t : Txn) (op : Op) → Contains part.txns t → Contains t.ops op
    → map.get op.writes row ≡ Some state → HasState h row state
written_in_whole part h p row state t op here there e =
    let k = place_of_member part.txns t here in
    let txn = stands_for (IsTxnPart p.number) h.txns part.txns k.0 t p.txns k.1 in
    let j = place_of_member t.ops op there in
    let at = has_number t.ops 1 j.0 op j.1 in
    let of = stands_for (IsOpAt p.number txn.0.no) (numbered 1 txn.0.ops) (numbered 1 t.ops) j.0 (at.0, op) txn.2.ops at.1 in
    let place = place_of_member (numbered 1 txn.0.ops) of.0 of.1 in
    written txn.0 of.0.1 txn.1 (member_at txn.0.ops place.0 of.0.1 (is_numbered txn.0.ops 1 place.0 of.0 place.1)) (of.2.1.writes row state e)

-- a state that a present row has in a part, it has in the whole
pub state_in_whole : (part h : History) → IsPartOf part h → (row : Row) (value : ℤ) → HasState part row (Some value) → HasState h row (Some value)
state_in_whole part h p row value (initial e) = p.initial row value e
state_in_whole part h p row value (in_the_end e) = p.ends row value e
state_in_whole part h p row value (written t op here there e) = written_in_whole part h p row (Some value) t op here there e

pub part_through : (small part h : History) → IsPartOf small part → IsPartOf part h → IsPartOf small h
part_through small part h p q = record {
  number = λ n k. q.number n (p.number n k);
  txns = through (IsTxnPart p.number) (IsTxnPart q.number) (IsTxnPart (λ n k. q.number n (p.number n k))) (txn_through p.number q.number) h.txns part.txns small.txns p.txns q.txns;
  installed = λ row. of_sublist (installers small row) (installers part row) (installers h row) (p.installed row) (q.installed row);
  initial = λ row v e. state_in_whole part h q row v (p.initial row v e);
  ends = λ row v e. state_in_whole part h q row v (p.ends row v e);
}
