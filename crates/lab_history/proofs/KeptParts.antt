-- Parts have no fault exactly where they keep what a history keeps.
use Rattle.std.proofs.{Common.{◌≡◌, ◌≤◌, ℕ, ◌+◌, ◌==◌, true, false, not, List, [], ◌∷◌, ◌++◌, length, map, sum, Result, Ok, Err, refl, sym, ◌∙◌, arith}, lemmas.{Bool.{ltb-false, le-ltb, and_parts, or_parts, or_from, not-false, and_from, not_from_true}, List.{length-append, Folds.{list_any-append}}}}
use Rattle.std.specs.{Prelude.{⊤, nat_lt}, List.{list_any, list_all}}
use Rattle.std.specs.FinMap as finite
use Rattle.lab_table.specs.Row.{Row}
use Rattle.lab_history.specs.Faults.{◌>>=◌, refused_if}
use Rattle.lab_history.specs.History.{History}
use Rattle.lab_history.specs.HistoryRules.{AllDistinct, operations, named_tables, distinct_tables, named_rows, distinct_rows, op_entries, OpsKeep, has_installer, Keeps}
use Rattle.lab_history.specs.WithinLimits.{within_limits}
use Rattle.lab_history.specs.FirstPartsFault.{ops_checked, txn_checked, txns_checked, installed_checked, checked}
use Rattle.lab_history.specs.declared.{fault.FileFault.{FileFault}, transaction.Txn.{Txn}}
use Rattle.lab_history.specs.declared.fault.FileFault.TheVariants as fault
use Rattle.lab_history.specs.declared.fault.Limit.TheVariants as limit
use Rattle.lab_history.specs.declared.path.ListPlace.TheVariants as list
use Rattle.lab_history.specs.declared.path.Path.TheVariants as path
use Rattle.lab_history.proofs.{CheckedTxns.{operations_decide}, LimitsKept.{limits_kept}, KeptOperations.{ops_joined, ops_parted}, PassedOps.{both_pass, passed_then, not_refused, ops_pass, pass_ops}, Standing.{unlike, operations_push}, Steps.{refused_is}}

-- ---- numbers

-- none of the later transactions has the number of an earlier one
abbrev AreFresh : List Txn → List Txn → Type 0
AreFresh before [] = Unit {0}
AreFresh before (t ∷ ts) = (list_any (λ m. m.no == t.no) before ≡ false) × AreFresh before ts

-- a number that comes later is fresh behind it too
fresh_parted : (before : List Txn) (t : Txn) (ts : List Txn) → AreFresh (before ++ t ∷ []) ts → AreFresh before ts × (list_any (λ m. m == t.no) (map (λ m. m.no) ts) ≡ false)
fresh_parted before t [] f = (tt, refl)
fresh_parted before t (u ∷ us) f =
    let rest : AreFresh before us × (list_any (λ m. m == t.no) (map (λ m. m.no) us) ≡ false) = fresh_parted before t us f.1 in
    let here : (list_any (λ m. m.no == u.no) before ≡ false) × (list_any (λ m. m.no == u.no) (t ∷ []) ≡ false) =
    or_parts (list_any (λ m. m.no == u.no) before) (list_any (λ m. m.no == u.no) (t ∷ [])) (sym (list_any-append (λ m. m.no == u.no) before (t ∷ [])) ∙ f.0) in
    let apart : ((t.no == u.no) ≡ false) × (false ≡ false) = or_parts (t.no == u.no) false here.1 in
    ((here.0, rest.0), or_from (u.no == t.no) (list_any (λ m. m == t.no) (map (λ m. m.no) us)) (unlike t.no u.no apart.0) rest.1)

fresh_joined : (before : List Txn) (t : Txn) (ts : List Txn) → AreFresh before ts → list_any (λ m. m == t.no) (map (λ m. m.no) ts) ≡ false → AreFresh (before ++ t ∷ []) ts
fresh_joined before t [] f h = tt
fresh_joined before t (u ∷ us) f h =
    let apart : ((u.no == t.no) ≡ false) × (list_any (λ m. m == t.no) (map (λ m. m.no) us) ≡ false) = or_parts (u.no == t.no) (list_any (λ m. m == t.no) (map (λ m. m.no) us)) h in (
      list_any-append (λ m. m.no == u.no) before (t ∷ [])
          ∙ or_from (list_any (λ m. m.no == u.no) before) (list_any (λ m. m.no == u.no) (t ∷ [])) f.0 (or_from (t.no == u.no) false (unlike u.no t.no apart.0) refl),
      fresh_joined before t us f.1 apart.1,
    )

none_fresh : (ts : List Txn) → AreFresh [] ts
none_fresh [] = tt
none_fresh (t ∷ ts) = (refl, none_fresh ts)

-- ---- transactions

-- what transactions behind others keep
record TxnsKeep (before ts : List Txn) : Type 0 where
  fresh : AreFresh before ts
  distinct : AllDistinct (map (λ t. t.no) ts)
  few : length (operations before) + length (operations ts) ≤ 10000
  ops : OpsKeep (operations ts)

counted_behind : (t : Txn) (ts : List Txn) → length (operations (t ∷ ts)) ≡ length t.ops + length (operations ts)
counted_behind t ts = length-append t.ops (operations ts)

txns_pass : (before : List Txn) (index : ℕ) (ts : List Txn) → length (operations before) ≤ 10000 → txns_checked before index ts ≡ Ok tt → TxnsKeep before ts
txns_pass before index [] few h = record { fresh = tt; distinct = tt; few = omega (arith, few); ops = tt }
txns_pass before index (t ∷ ts) few h =
    let parts = both_pass (txn_checked before index t) (λ _. txns_checked (before ++ t ∷ []) (index + 1) ts) tt h in
    let number = both_pass (refused_if (list_any (λ m. m.no == t.no) before) (fault.RepeatedTxn t.no))
    (λ _. refused_if (nat_lt 10000 (length (operations before) + length t.ops)) (fault.OverLimit limit.Operations) >>= λ _. ops_checked index t.no 0 t.ops) tt parts.0 in
    let count = both_pass (refused_if (nat_lt 10000 (length (operations before) + length t.ops)) (fault.OverLimit limit.Operations)) (λ _. ops_checked index t.no 0 t.ops) tt number.1 in
    let within : length (operations before) + length t.ops ≤ 10000 =
    ltb-false 10000 (length (operations before) + length t.ops) (not_refused (nat_lt 10000 (length (operations before) + length t.ops)) (fault.OverLimit limit.Operations) count.0) in
    let rest : TxnsKeep (before ++ t ∷ []) ts = txns_pass (before ++ t ∷ []) (index + 1) ts (omega (arith, within, operations_push before t)) parts.1 in
    let old : AreFresh before ts × (list_any (λ m. m == t.no) (map (λ m. m.no) ts) ≡ false) = fresh_parted before t ts rest.fresh in
    record {
      fresh = (not_refused (list_any (λ m. m.no == t.no) before) (fault.RepeatedTxn t.no) number.0, old.0);
      distinct = (old.1, rest.distinct);
      few = omega (arith, rest.few, operations_push before t, counted_behind t ts);
      ops = ops_joined t.ops (operations ts) (ops_pass index t.no 0 t.ops count.1) rest.ops;
    }

pass_txns : (before : List Txn) (index : ℕ) (ts : List Txn) → TxnsKeep before ts → txns_checked before index ts ≡ Ok tt
pass_txns before index [] k = refl
pass_txns before index (t ∷ ts) k =
    let ops : OpsKeep t.ops × OpsKeep (operations ts) = ops_parted t.ops (operations ts) k.ops in
    passed_then (txn_checked before index t) (λ _. txns_checked (before ++ t ∷ []) (index + 1) ts)
    (operations_decide before index t k.fresh.0 (omega (arith, k.few, counted_behind t ts)) ∙ pass_ops index t.no 0 t.ops ops.0)
    ∙ pass_txns (before ++ t ∷ []) (index + 1) ts (record {
      fresh = fresh_joined before t ts k.fresh.1 k.distinct.0;
      distinct = k.distinct.1;
      few = omega (arith, k.few, operations_push before t, counted_behind t ts);
      ops = ops.1;
    })

-- ---- installed rows

installed_pass : (index : ℕ) (es : List (Row × List ℕ)) → installed_checked index es ≡ Ok tt → list_all has_installer (map (λ e. e.1) es) ≡ true
installed_pass index [] h = refl
installed_pass index (e ∷ es) h =
    let wrong : FileFault = fault.WrongFormat (path.Member list.Installed index) in
    let parts = both_pass (refused_if (not (has_installer e.1)) wrong) (λ _. installed_checked (index + 1) es) tt h in
    and_from (has_installer e.1) (list_all has_installer (map (λ e. e.1) es)) (not-false (has_installer e.1) (not_refused (not (has_installer e.1)) wrong parts.0))
    (installed_pass (index + 1) es parts.1)

pass_installed : (index : ℕ) (es : List (Row × List ℕ)) → list_all has_installer (map (λ e. e.1) es) ≡ true → installed_checked index es ≡ Ok tt
pass_installed index [] h = refl
pass_installed index (e ∷ es) h =
    let wrong : FileFault = fault.WrongFormat (path.Member list.Installed index) in
    let parts = and_parts (has_installer e.1) (list_all has_installer (map (λ e. e.1) es)) h in
    passed_then (refused_if (not (has_installer e.1)) wrong) (λ _. installed_checked (index + 1) es) (refused_is wrong (not_from_true (has_installer e.1) parts.0))
    ∙ pass_installed (index + 1) es parts.1

-- ---- the whole

record LimitsKeep (h : History) : Type 0 where
  tables : distinct_tables (named_tables h) ≤ 4
  ids : distinct_rows (named_rows h) ≤ 1000
  entries : sum (map op_entries (operations h.txns)) ≤ 200000

limits_pass : (h : History) → within_limits h ≡ Ok tt → LimitsKeep h
limits_pass h w =
    let named = distinct_tables (named_tables h) in
    let ids = distinct_rows (named_rows h) in
    let all = sum (map op_entries (operations h.txns)) in
    let tables = both_pass (refused_if (nat_lt 4 named) (fault.OverLimit limit.Tables)) (λ _. refused_if (nat_lt 1000 ids) (fault.OverLimit limit.Ids) >>= λ _. refused_if (nat_lt 200000 all)
    (fault.OverLimit limit.Entries)) tt w in
    let parts = both_pass (refused_if (nat_lt 1000 ids) (fault.OverLimit limit.Ids)) (λ _. refused_if (nat_lt 200000 all) (fault.OverLimit limit.Entries)) tt tables.1 in
    record {
      tables = ltb-false 4 named (not_refused (nat_lt 4 named) (fault.OverLimit limit.Tables) tables.0);
      ids = ltb-false 1000 ids (not_refused (nat_lt 1000 ids) (fault.OverLimit limit.Ids) parts.0);
      entries = ltb-false 200000 all (not_refused (nat_lt 200000 all) (fault.OverLimit limit.Entries) parts.1);
    }

pub checked_keeps : (h : History) → checked h ≡ Ok tt → Keeps h
checked_keeps h c =
    let few = both_pass (refused_if (nat_lt 1000 (length h.txns)) (fault.OverLimit limit.Transactions))
    (λ _. txns_checked [] 0 h.txns >>= λ _. installed_checked 0 (finite.entries h.installed) >>= λ _. within_limits h) tt c in
    let ran = both_pass (txns_checked [] 0 h.txns) (λ _. installed_checked 0 (finite.entries h.installed) >>= λ _. within_limits h) tt few.1 in
    let rest = both_pass (installed_checked 0 (finite.entries h.installed)) (λ _. within_limits h) tt ran.1 in
    let txns : TxnsKeep [] h.txns = txns_pass [] 0 h.txns (omega arith) ran.0 in
    let limits : LimitsKeep h = limits_pass h rest.1 in
    record {
      transactions = ltb-false 1000 (length h.txns) (not_refused (nat_lt 1000 (length h.txns)) (fault.OverLimit limit.Transactions) few.0);
      distinct = txns.distinct;
      few_operations = omega (arith, txns.few);
      operations_keep = txns.ops;
      installers = installed_pass 0 (finite.entries h.installed) rest.0;
      tables = limits.tables;
      ids = limits.ids;
      entries = limits.entries;
    }

pub keeps_checked : (h : History) → Keeps h → checked h ≡ Ok tt
keeps_checked h k =
    passed_then (refused_if (nat_lt 1000 (length h.txns)) (fault.OverLimit limit.Transactions)) (λ _. txns_checked [] 0 h.txns >>= λ _. installed_checked 0
    (finite.entries h.installed) >>= λ _. within_limits h)
    (refused_is (fault.OverLimit limit.Transactions) (le-ltb 1000 (length h.txns) k.transactions))
    ∙ passed_then (txns_checked [] 0 h.txns) (λ _. installed_checked 0 (finite.entries h.installed) >>= λ _. within_limits h)
    (pass_txns [] 0 h.txns (record { fresh = none_fresh h.txns; distinct = k.distinct; few = omega (arith, k.few_operations); ops = k.operations_keep }))
    ∙ passed_then (installed_checked 0 (finite.entries h.installed)) (λ _. within_limits h) (pass_installed 0 (finite.entries h.installed) k.installers)
    ∙ limits_kept h k.tables k.ids k.entries

passes_or_stops : (r : Result ⊤ FileFault) (f : FileFault) → r ≡ Ok tt → r ≡ Err f → ⊥
passes_or_stops (Ok x) f is isnt = absurd cc
passes_or_stops (Err e) f is isnt = absurd cc

-- parts with a fault don't keep it
pub fault_breaks : (h : History) (f : FileFault) → checked h ≡ Err f → Keeps h → ⊥
fault_breaks h f e k = passes_or_stops (checked h) f (keeps_checked h k) e
