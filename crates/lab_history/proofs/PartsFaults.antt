-- The first fault of parts is true of them.
use Rattle.std.proofs.Common.{◌≡◌, ◌≤◌, inl, inr, ℕ, zero, suc, ◌+◌, ◌==◌, Bool, true, false, not, List, [], ◌∷◌, ◌++◌, length, map, sum, Some, Err, refl, sym, ap, ◌∙◌, arith, subst, append_assoc}
use Rattle.std.specs.{Prelude.{nat_lt, slice_get}, List.{list_any}}
use Rattle.std.specs.FinMap as finite
use Rattle.std.proofs.lemmas.{Bool.{ltb-true, eqb-true, or_cases, not-true}, Grind.{flat_map-append}, List.{length-append}, Option.{slice_get_within}}
use Rattle.lab_table.{proofs.Tests.{slice_get-middle}, specs.Row.{Row}}
use Rattle.lab_history.specs.Faults.{◌>>=◌, refused_if}
use Rattle.lab_history.specs.History.{History}
use Rattle.lab_history.specs.HistoryRules.{operations, named_tables, distinct_tables, named_rows, distinct_rows, op_entries, has_installer}
use Rattle.lab_history.specs.WithinLimits.{within_limits}
use Rattle.lab_history.specs.FirstPartsFault.{ops_checked, txn_checked, txns_checked, installed_checked, checked}
use Rattle.lab_history.specs.PartsFault.{IsOpFault, IsPartsFault, many_transactions, repeated, many_operations, of_operation, no_installer, many_tables, many_ids, many_entries}
use Rattle.lab_history.specs.declared.{fault.FileFault.{FileFault}, transaction.Txn.{Txn}}
use Rattle.lab_history.specs.declared.fault.FileFault.TheVariants as fault
use Rattle.lab_history.specs.declared.fault.Limit.TheVariants as limit
use Rattle.lab_history.specs.declared.path.ListPlace.TheVariants as list
use Rattle.lab_history.specs.declared.path.Path.TheVariants as path
use Rattle.lab_history.proofs.OpsFaults.{first_or_second, refused_for, IsOpsFault, ops_fault}

-- ---- transactions

-- a transaction with a number
record HasNumber (number : ℕ) (ts : List Txn) : Type 0 where
  i : ℕ
  txn : Txn
  stands : slice_get ts i ≡ Some txn
  is : txn.no ≡ number

some_has : (number : ℕ) (ts : List Txn) → list_any (λ m. m.no == number) ts ≡ true → HasNumber number ts
some_has number [] h = absurd cc
some_has number (t ∷ ts) h =
    elim (or_cases (t.no == number) (list_any (λ m. m.no == number) ts) h) [
      | inl here ↦ record { i = 0; txn = t; stands = refl; is = eqb-true t.no number here }
      | inr later ↦ let rest : HasNumber number ts = some_has number ts later in record { i = suc rest.i; txn = rest.txn; stands = rest.stands; is = rest.is }
    ]

in_front : (xs ys : List Txn) (i : ℕ) (t : Txn) → slice_get xs i ≡ Some t → slice_get (xs ++ ys) i ≡ Some t
in_front [] ys i t h = absurd cc
in_front (x ∷ xs) ys zero t h = h
in_front (x ∷ xs) ys (suc i) t h = in_front xs ys i t h

operations_of_all : (before : List Txn) (t : Txn) (ts : List Txn) → length (operations before) + length t.ops ≤ length (operations (before ++ t ∷ ts))
operations_of_all before t ts =
    omega (arith, ap length (flat_map-append (λ (m : Txn). m.ops) before (t ∷ ts)), length-append (operations before) (operations (t ∷ ts)), length-append t.ops (operations ts))

module _ (h : History) (f : FileFault) where
  txn_fault : (before : List Txn) (t : Txn) (ts : List Txn) → h.txns ≡ before ++ t ∷ ts → txn_checked before (length before) t ≡ Err f → IsPartsFault h f
  txn_fault before t ts all e =
      let again : Bool = list_any (λ m. m.no == t.no) before in
      let many : Bool = nat_lt 10000 (length (operations before) + length t.ops) in
      let here : slice_get h.txns (length before) ≡ Some t = ap (λ l. slice_get l (length before)) all ∙ slice_get-middle before t ts in
      elim (first_or_second (refused_if again (fault.RepeatedTxn t.no)) (λ _. refused_if many (fault.OverLimit limit.Operations) >>= λ _. ops_checked (length before) t.no 0 t.ops) f e) [
        | inl first ↦
            let refused : (again ≡ true) × (fault.RepeatedTxn t.no ≡ f) = refused_for again (fault.RepeatedTxn t.no) f first in
            let old : HasNumber t.no before = some_has t.no before refused.0 in
            subst (IsPartsFault h) refused.1
            (repeated old.i (length before) old.txn t (slice_get_within before old.i old.txn old.stands)
            (ap (λ l. slice_get l old.i) all ∙ in_front before (t ∷ ts) old.i old.txn old.stands) here old.is)
        | inr second ↦ elim (first_or_second (refused_if many (fault.OverLimit limit.Operations)) (λ _. ops_checked (length before) t.no 0 t.ops) f second) [
          | inl over ↦
              let refused : (many ≡ true) × (fault.OverLimit limit.Operations ≡ f) = refused_for many (fault.OverLimit limit.Operations) f over in
              subst (IsPartsFault h) refused.1
              (many_operations (omega (arith, ltb-true 10000 (length (operations before) + length t.ops) refused.0, operations_of_all before t ts, ap (λ l. length (operations l)) all)))
          | inr ops ↦
              let rest : IsOpsFault (length before) t.no 0 t.ops f = ops_fault (length before) t.no 0 t.ops f ops in
              of_operation (length before) rest.j t rest.op f here rest.stands (subst (λ n. IsOpFault (length before) t.no n rest.op f) (omega arith) rest.is)
        ]
      ]

  txns_fault : (before ts : List Txn) → h.txns ≡ before ++ ts → (index : ℕ) → length before ≡ index → txns_checked before index ts ≡ Err f → IsPartsFault h f
  txns_fault before [] all index at e = absurd cc
  txns_fault before (t ∷ ts) all index at e =
      elim (first_or_second (txn_checked before index t) (λ _. txns_checked (before ++ t ∷ []) (index + 1) ts) f e) [
        | inl here ↦ txn_fault before t ts all (ap (λ n. txn_checked before n t) at ∙ here)
        | inr later ↦ txns_fault (before ++ t ∷ []) ts (all ∙ sym (append_assoc before (t ∷ []) ts)) (index + 1) (length-append before (t ∷ []) ∙ omega (arith, at)) later
      ]

-- ---- installed rows

nobody : (ns : List ℕ) → has_installer ns ≡ false → ns ≡ []
nobody [] h = refl
nobody (n ∷ ns) h = absurd cc

-- a row without installers
record IsUninstalled (index : ℕ) (es : List (Row × List ℕ)) (f : FileFault) : Type 0 where
  k : ℕ
  row : Row
  stands : slice_get es k ≡ Some (row, [])
  is : fault.WrongFormat (path.Member list.Installed (index + k)) ≡ f

installed_fault : (index : ℕ) (es : List (Row × List ℕ)) (f : FileFault) → installed_checked index es ≡ Err f → IsUninstalled index es f
installed_fault index [] f h = absurd cc
installed_fault index (e ∷ es) f h =
    let wrong : ℕ → FileFault = λ n. fault.WrongFormat (path.Member list.Installed n) in
    elim (first_or_second (refused_if (not (has_installer e.1)) (wrong index)) (λ _. installed_checked (index + 1) es) f h) [
      | inl here ↦
          let refused : (not (has_installer e.1) ≡ true) × (wrong index ≡ f) = refused_for (not (has_installer e.1)) (wrong index) f here in
          record { k = 0; row = e.0; stands = ap (λ ns. Some (e.0, ns)) (nobody e.1 (not-true (has_installer e.1) refused.0)); is = ap wrong (omega arith) ∙ refused.1 }
      | inr later ↦
          let rest : IsUninstalled (index + 1) es f = installed_fault (index + 1) es f later in
          record { k = suc rest.k; row = rest.row; stands = rest.stands; is = ap wrong (omega arith) ∙ rest.is }
    ]

-- ---- the whole

-- of ids and entries
counts_fault : (h : History) (f : FileFault) → (refused_if (nat_lt 1000 (distinct_rows (named_rows h))) (fault.OverLimit limit.Ids) >>= λ _. refused_if (nat_lt 200000
    (sum (map op_entries (operations h.txns)))) (fault.OverLimit limit.Entries)) ≡ Err f → IsPartsFault h f
counts_fault h f e =
    let ids : ℕ = distinct_rows (named_rows h) in
    let all : ℕ = sum (map op_entries (operations h.txns)) in
    elim (first_or_second (refused_if (nat_lt 1000 ids) (fault.OverLimit limit.Ids)) (λ _. refused_if (nat_lt 200000 all) (fault.OverLimit limit.Entries)) f e) [
      | inl here ↦
          let refused : (nat_lt 1000 ids ≡ true) × (fault.OverLimit limit.Ids ≡ f) = refused_for (nat_lt 1000 ids) (fault.OverLimit limit.Ids) f here in
          subst (IsPartsFault h) refused.1 (many_ids (ltb-true 1000 ids refused.0))
      | inr later ↦
          let refused : (nat_lt 200000 all ≡ true) × (fault.OverLimit limit.Entries ≡ f) = refused_for (nat_lt 200000 all) (fault.OverLimit limit.Entries) f later in
          subst (IsPartsFault h) refused.1 (many_entries (ltb-true 200000 all refused.0))
    ]

limits_fault : (h : History) (f : FileFault) → within_limits h ≡ Err f → IsPartsFault h f
limits_fault h f e =
    let tables : ℕ = distinct_tables (named_tables h) in
    elim (first_or_second (refused_if (nat_lt 4 tables) (fault.OverLimit limit.Tables)) (λ _. refused_if (nat_lt 1000 (distinct_rows (named_rows h))) (fault.OverLimit limit.Ids) >>= λ _. refused_if (nat_lt 200000
    (sum (map op_entries (operations h.txns)))) (fault.OverLimit limit.Entries)) f e) [
      | inl here ↦
          let refused : (nat_lt 4 tables ≡ true) × (fault.OverLimit limit.Tables ≡ f) = refused_for (nat_lt 4 tables) (fault.OverLimit limit.Tables) f here in
          subst (IsPartsFault h) refused.1 (many_tables (ltb-true 4 tables refused.0))
      | inr later ↦ counts_fault h f later
    ]

rest_fault : (h : History) (f : FileFault) → (installed_checked 0 (finite.entries h.installed) >>= λ _. within_limits h) ≡ Err f → IsPartsFault h f
rest_fault h f e =
    elim (first_or_second (installed_checked 0 (finite.entries h.installed)) (λ _. within_limits h) f e) [
      | inl here ↦
          let empty : IsUninstalled 0 (finite.entries h.installed) f = installed_fault 0 (finite.entries h.installed) f here in
          subst (IsPartsFault h) (ap (λ n. fault.WrongFormat (path.Member list.Installed n)) (omega arith) ∙ empty.is) (no_installer empty.k empty.row empty.stands)
      | inr later ↦ limits_fault h f later
    ]

pub fault_true : (h : History) (f : FileFault) → checked h ≡ Err f → IsPartsFault h f
fault_true h f e =
    elim (first_or_second (refused_if (nat_lt 1000 (length h.txns)) (fault.OverLimit limit.Transactions))
    (λ _. txns_checked [] 0 h.txns >>= λ _. installed_checked 0 (finite.entries h.installed) >>= λ _. within_limits h) f e) [
      | inl here ↦
          let refused : (nat_lt 1000 (length h.txns) ≡ true) × (fault.OverLimit limit.Transactions ≡ f) = refused_for (nat_lt 1000 (length h.txns)) (fault.OverLimit limit.Transactions) f here in
          subst (IsPartsFault h) refused.1 (many_transactions (ltb-true 1000 (length h.txns) refused.0))
      | inr later ↦ elim (first_or_second (txns_checked [] 0 h.txns) (λ _. installed_checked 0 (finite.entries h.installed) >>= λ _. within_limits h) f later) [
        | inl ran ↦ txns_fault h f [] h.txns refl 0 refl ran
        | inr rest ↦ rest_fault h f rest
      ]
    ]
