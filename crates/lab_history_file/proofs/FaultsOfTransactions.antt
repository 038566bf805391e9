-- The faults of transactions are true.
use Rattle.std.proofs.{Common.{◌≡◌, ℕ, ◌+◌, ◌≤◌, ◌<◌, ◌==◌, ◌⊎◌, inl, inr, ⊎_elim, Bool, true, false, ◌||◌, List, [], ◌∷◌, ◌++◌, length, Some, is_some, option_and_then, option_map, Ok, Err, codes, nat_lt, refl, sym, ap, subst, ◌∙◌, arith, ltb-true, eqb-true}, lemmas.Bool.{or_cases, or_right}}
use Rattle.std.specs.List.{list_any}
use Rattle.serde_json.specs.{Data.{Data, array, Items, item}, Find.{as_array, as_str, at, get_item}}
use Rattle.lab_history.{specs.{Faults.{required, refused_if}, HistoryRules.{operations}, declared.{fault.FileFault.{FileFault}, transaction.Txn.{Txn}}}, proofs.{Steps.{either_err, required_ok, required_err, refused_err}, Standing.{operations_push}}}
use Rattle.lab_history_file.specs.Entries.{txn_in_number, items_from}
use Rattle.lab_history_file.specs.FaultOf.{IsNumber, listed_ops, all_ops, IsTrueIn}
use Rattle.lab_history_file.specs.ValueAt.{txn_at}
use Rattle.lab_history_file.specs.FileOf.{IsTransaction, IsOperation}
use Rattle.lab_history_file.specs.Member.{count}
use Rattle.lab_history_file.specs.Keys.{txn_keys}
use Rattle.lab_history_file.specs.Format.{at_key, keyed, op_behind, outcome_named, txn_in, txns_in}
use Rattle.lab_history.specs.declared.fault.FileFault.TheVariants as fault
use Rattle.lab_history.specs.declared.fault.Limit.TheVariants as limit
use Rattle.lab_history_file.specs.declared.file_version.FileVersion.{FileVersion}
use Rattle.lab_history.specs.declared.path.Path.TheVariants as path
use Rattle.lab_history_file.proofs.{JsonShapes.{array_of}, OperationsRead.{each_count}, TransactionsRead.{txn_read}, ItemsRead.{tail_all, items_err, each_err}, ListWalks.{is_wrong}, FaultsOfOperations.{keyed_err, op_fault}}

-- the numbers of transactions that were read stand before a place
abbrev Known : Data → List Txn → ℕ → Type 0
Known d before i = (n : ℕ) → list_any (λ t. t.no == n) before ≡ true → (j : ℕ) × (j < i) × IsNumber d j n

any_pushed : (test : Txn → Bool) (ts : List Txn) (t : Txn) → list_any test (ts ++ t ∷ []) ≡ true → (list_any test ts ≡ true) ⊎ (test t ≡ true)
any_pushed test [] t e = ⊎_elim (λ is. inr is) (λ none. absurd cc) (or_cases (test t) false e)
any_pushed test (u ∷ ts) t e =
    ⊎_elim (λ is. inl (ap (λ b. b || list_any test ts) is))
    (λ rest. ⊎_elim (λ found. inl (or_right (test u) _ found)) (λ is. inr is) (any_pushed test ts t rest))
    (or_cases (test u) _ e)

known_pushed : (d : Data) (before : List Txn) (i : ℕ) (txn : Txn) → Known d before i → IsNumber d i txn.no → Known d (before ++ txn ∷ []) (i + 1)
known_pushed d before i txn known here n e =
    ⊎_elim (λ earlier. let found = known n earlier in let below = found.1 in (found.0, omega (arith, below), found.2))
    (λ this. (i, omega arith, subst (IsNumber d i) (eqb-true txn.no n this) here))
    (any_pushed (λ t. t.no == n) before txn e)

-- what a transaction that is read lists
pub read_number : (version : FileVersion) (t : Data) (txn : Txn) → IsTransaction version t txn → txn_in_number (at_key (codes "no") t) ≡ Some txn.no
read_number version t txn is = ap (λ u. txn_in_number (at_key (codes "no") u)) is.2 ∙ is.3

pub read_count : (version : FileVersion) (t : Data) (txn : Txn) → IsTransaction version t txn → listed_ops (as_array (at_key (codes "ops") t)) ≡ length txn.ops
read_count version t txn is =
    ap (λ u. listed_ops (as_array (at_key (codes "ops") u))) is.2 ∙ ap (λ u. listed_ops (as_array u)) is.4.1 ∙ each_count (IsOperation version) is.4.0 txn.ops is.4.2

module _ (version : FileVersion) (d : Data) (all : Items) (whole : at_key (codes "transactions") d ≡ array all) (f : FileFault) where
  module _ (before : List Txn) (i : ℕ) (t : Data) (here : txn_at d i ≡ Some t) where
    repeated_fault : (n : ℕ) → Known d before i → txn_in_number (at_key (codes "no") t) ≡ Some n → refused_if (list_any (λ u. u.no == n) before) (fault.RepeatedTxn n) ≡ Err f → IsTrueIn version d f
    repeated_fault n known numbered e =
        let r = refused_err _ (fault.RepeatedTxn n) f e in
        let earlier = known n r.0 in
        subst (IsTrueIn version d) (sym r.1) (earlier.0, i, earlier.1, earlier.2, (t, here, numbered))

    room_fault : (ds : Items) → length (operations before) + listed_ops (as_array (at_key (codes "ops") t)) ≤ all_ops all → as_array (at_key (codes "ops") t) ≡ Some ds
        → refused_if (nat_lt 10000 (length (operations before) + count ds)) (fault.OverLimit limit.Operations) ≡ Err f → IsTrueIn version d f
    room_fault ds room is e =
        let r = refused_err _ (fault.OverLimit limit.Operations) f e in
        let over : 10000 < length (operations before) + count ds = ltb-true 10000 _ r.0 in
        let same : listed_ops (as_array (at_key (codes "ops") t)) ≡ count ds = ap listed_ops is in
        let many : 10000 < all_ops all = omega (arith, over, same, room) in
        subst (IsTrueIn version d) (sym r.1) (all, whole, many)

    ops_fault : (n : ℕ) (ds : Items) → txn_in_number (at_key (codes "no") t) ≡ Some n → as_array (at_key (codes "ops") t) ≡ Some ds → items_from (op_behind version i n) [] 0 ds ≡ Err f → IsTrueIn version d f
    ops_fault n ds numbered is e =
        let found = each_err (op_behind version i n) ds f e in
        op_fault version d t found.2 i n found.1 here numbered (ap (at found.1) (array_of _ ds is) ∙ found.3) f found.4

    -- the fault of a transaction is true
    txn_fault : Known d before i → length (operations before) + listed_ops (as_array (at_key (codes "ops") t)) ≤ all_ops all → txn_in version before i t ≡ Err f → IsTrueIn version d f
    txn_fault known room e =
        ⊎_elim (λ wrong. let r = keyed_err _ txn_keys t f wrong in is_wrong version d f (path.Transaction i) t r.1 here r.0) (λ keys.
        ⊎_elim (λ missing. let r = required_err (path.Number i) _ f missing in
        is_wrong version d f (path.Number i) (at_key (codes "no") t) r.1 (ap (option_map (at_key (codes "no"))) here) (ap is_some r.0)) (λ numbered.
        let number_is = required_ok (path.Number i) _ numbered.0 numbered.1 in
        ⊎_elim (repeated_fault numbered.0 known number_is) (λ alone.
        ⊎_elim (λ missing. let r = required_err (path.Outcome i) _ f missing in
        is_wrong version d f (path.Outcome i) (at_key (codes "outcome") t) r.1 (ap (option_map (at_key (codes "outcome"))) here) (ap is_some r.0)) (λ ended.
        ⊎_elim (λ missing. let r = required_err (path.Operations i) _ f missing in
        is_wrong version d f (path.Operations i) (at_key (codes "ops") t) r.1 (ap (option_map (at_key (codes "ops"))) here) (ap is_some r.0)) (λ items.
        let items_are = required_ok (path.Operations i) _ items.0 items.1 in
        ⊎_elim (room_fault items.0 room items_are) (λ few.
        ⊎_elim (ops_fault numbered.0 items.0 number_is items_are) (λ those. absurd cc)
        (either_err (items_from (op_behind version i numbered.0) [] 0 items.0) _ f few.2))
        (either_err (refused_if (nat_lt 10000 (length (operations before) + count items.0)) (fault.OverLimit limit.Operations)) _ f items.2))
        (either_err (required (path.Operations i) (as_array (at_key (codes "ops") t))) _ f ended.2))
        (either_err (required (path.Outcome i) (option_and_then outcome_named (as_str (at_key (codes "outcome") t)))) _ f alone.2))
        (either_err (refused_if (list_any (λ u. u.no == numbered.0) before) (fault.RepeatedTxn numbered.0)) _ f numbered.2))
        (either_err (required (path.Number i) (txn_in_number (at_key (codes "no") t))) _ f keys.2))
        (either_err (keyed (path.Transaction i) txn_keys t) _ f e)

  -- what is known of the transactions before some
  abbrev Passed : List Txn → ℕ → Items → Type 0
  Passed before i ts = Known d before i × (length (operations before) + all_ops ts ≤ all_ops all)

  one_passed : (before : List Txn) (i : ℕ) (t : Data) (ts : Items) (txn : Txn) → get_item i all ≡ Some t → txn_in version before i t ≡ Ok txn → Passed before i (item t ts)
      → Passed (before ++ txn ∷ []) (i + 1) ts
  one_passed before i t ts txn here e (known, room) =
      let is = (txn_read version before i t txn e).0 in
      let listed = read_count version t txn is in
      let total = operations_push before txn in
      (known_pushed d before i txn known (t, ap (at i) whole ∙ here, read_number version t txn is), omega (arith, room, listed, total))

  each_txn_fault : items_from (txn_in version) [] 0 all ≡ Err f → IsTrueIn version d f
  each_txn_fault e =
      let found = items_err (txn_in version) Passed all f one_passed [] 0 all (tail_all all) ((λ n none. absurd cc), omega arith) e in
      let room = found.5.1 in
      txn_fault found.0 found.1 found.2 (ap (at found.1) whole ∙ found.4) found.5.0 (omega (arith, room)) found.6

-- the fault of the list of transactions is true
pub txns_fault : (version : FileVersion) (d : Data) (f : FileFault) → txns_in version (at_key (codes "transactions") d) ≡ Err f → IsTrueIn version d f
txns_fault version d f e =
    ⊎_elim (λ missing. let r = required_err path.Transactions _ f missing in is_wrong version d f path.Transactions (at_key (codes "transactions") d) r.1 refl (ap is_some r.0)) (λ items.
    let whole = array_of _ items.0 (required_ok path.Transactions _ items.0 items.1) in
    ⊎_elim (λ over. let r = refused_err _ (fault.OverLimit limit.Transactions) f over in subst (IsTrueIn version d) (sym r.1) (items.0, whole, ltb-true 1000 (count items.0) r.0)) (λ few.
    each_txn_fault version d items.0 whole f few.2)
    (either_err (refused_if (nat_lt 1000 (count items.0)) (fault.OverLimit limit.Transactions)) _ f items.2))
    (either_err (required path.Transactions (as_array (at_key (codes "transactions") d))) _ f e)
