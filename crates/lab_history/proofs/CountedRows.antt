-- A rising list of rows, to which the rows of lists were added, has each of them once.
use Rattle.std.proofs.Common.{◌≡◌, ◌+◌, ◌≤◌, Bool, true, false, cond, ◌||◌, List, [], ◌∷◌, ◌++◌, length, map, suc, refl, sym, ap, subst, ◌∙◌, arith, one-add}
use Rattle.std.specs.{Prelude.{nat_le, option_and_then}, List.{list_any, AllByRecursion, flat_map, Sorted.{IsStrictlySortedBy}}, Ordering.{match_ordering, ordering_reverse}, declared.cmp.Ordering.{Ordering, TheVariants.{Less, Equal, Greater}}, Set.{distinct_count, unique_keys}, BTreeSet.{insert_key}, FinMap.{entries, keys}}
use Rattle.std.proofs.lemmas.{Cmp.{eq_by_cmp_equiv}, Map.{Keys.{IsDistinct-from_sorted}, Made.{length-from_keys, length-le_from_is_member}}, Grind.{flat_map-append}}
use Rattle.std.proofs.Math.Bool.{or_self_left, or_assoc, or-false}
use Rattle.lab_table.specs.Row.{Row, row_cmp, row_eq, rows_total, rows_apart}
use Rattle.lab_history.specs.{VersionName.{new_states}, declared.{operation.{State.{State}, Op.{Op}}, transaction.Txn.{Txn}}, History.{History}, HistoryRules.{operations, op_rows, named_rows, distinct_rows}, RunningCounts.{with_rows, with_op, with_ops, with_txns, only_if, rows_within}}

-- ---- one row more

swapped : (a b c : Bool) → (a || (b || c)) ≡ (b || (a || c))
swapped true true c = refl
swapped true false c = refl
swapped false b c = refl

-- what is in a list to which a row was added
any_inserted : (q k : Row) (xs : List Row) → list_any (row_eq q) (insert_key row_cmp xs k) ≡ (row_eq q k || list_any (row_eq q) xs)
any_inserted q k [] = refl
any_inserted q k (x ∷ xs) = by (row_cmp k x) refl (any_inserted q k xs)
  where
    by : (r : Ordering) → row_cmp k x ≡ r → list_any (row_eq q) (insert_key row_cmp xs k) ≡ (row_eq q k || list_any (row_eq q) xs)
        → list_any (row_eq q) (match_ordering r (k ∷ x ∷ xs) (x ∷ xs) (x ∷ insert_key row_cmp xs k)) ≡ (row_eq q k || (row_eq q x || list_any (row_eq q) xs))
    by Less e h = refl
    by Equal e h = sym (or_self_left (row_eq q x) (list_any (row_eq q) xs)) ∙ ap (λ y. row_eq q y || (row_eq q x || list_any (row_eq q) xs)) (sym (rows_apart k x e))
    by Greater e h = ap (λ b. row_eq q x || b) h ∙ swapped (row_eq q x) (row_eq q k) (list_any (row_eq q) xs)

-- a row below all others is below those and a row above it
above_inserted : (x k : Row) (xs : List Row) → row_cmp x k ≡ Less → AllByRecursion (λ y. row_cmp x y ≡ Less) xs → AllByRecursion (λ y. row_cmp x y ≡ Less) (insert_key row_cmp xs k)
above_inserted x k [] e all = (e, tt)
above_inserted x k (z ∷ zs) e all = by (row_cmp k z) (above_inserted x k zs e all.1)
  where
    by : (r : Ordering) → AllByRecursion (λ y. row_cmp x y ≡ Less) (insert_key row_cmp zs k)
        → AllByRecursion (λ y. row_cmp x y ≡ Less) (match_ordering r (k ∷ z ∷ zs) (z ∷ zs) (z ∷ insert_key row_cmp zs k))
    by Less h = (e, all)
    by Equal h = all
    by Greater h = (all.0, h)

above_less : (k x : Row) (xs : List Row) → row_cmp k x ≡ Less → AllByRecursion (λ y. row_cmp x y ≡ Less) xs → AllByRecursion (λ y. row_cmp k y ≡ Less) xs
above_less k x [] e all = tt
above_less k x (z ∷ zs) e all = (rows_total.trans k x z e all.0, above_less k x zs e all.1)

-- a rising list rises with a row more
sorted_inserted : (k : Row) (xs : List Row) → IsStrictlySortedBy row_cmp xs → IsStrictlySortedBy row_cmp (insert_key row_cmp xs k)
unfolding IsStrictlySortedBy
sorted_inserted k [] s = (tt, tt)
sorted_inserted k (x ∷ xs) s = by (row_cmp k x) refl (sorted_inserted k xs s.1)
  where
    by : (r : Ordering) → row_cmp k x ≡ r → IsStrictlySortedBy row_cmp (insert_key row_cmp xs k) → IsStrictlySortedBy row_cmp (match_ordering r (k ∷ x ∷ xs) (x ∷ xs) (x ∷ insert_key row_cmp xs k))
    by Less e h = ((e, above_less k x xs e s.0), s)
    by Equal e h = s
    by Greater e h = (above_inserted x k xs (rows_total.antisymm x k ∙ ap ordering_reverse e) s.0, h)

-- ---- all rows of a list

abbrev rows_added : List Row → List Row → List Row
rows_added seen [] = seen
rows_added seen (row ∷ rows) = rows_added (insert_key row_cmp seen row) rows

any_added : (q : Row) (seen rows : List Row) → list_any (row_eq q) (rows_added seen rows) ≡ (list_any (row_eq q) seen || list_any (row_eq q) rows)
any_added q seen [] = sym (or-false (list_any (row_eq q) seen))
any_added q seen (row ∷ rows) =
    any_added q (insert_key row_cmp seen row) rows ∙ ap (λ b. b || list_any (row_eq q) rows) (any_inserted q row seen) ∙ or_assoc (row_eq q row) (list_any (row_eq q) seen) (list_any (row_eq q) rows)
    ∙ swapped (row_eq q row) (list_any (row_eq q) seen) (list_any (row_eq q) rows)

sorted_added : (seen rows : List Row) → IsStrictlySortedBy row_cmp seen → IsStrictlySortedBy row_cmp (rows_added seen rows)
sorted_added seen [] s = s
sorted_added seen (row ∷ rows) s = sorted_added (insert_key row_cmp seen row) rows (sorted_inserted row seen s)

none_sorted : IsStrictlySortedBy row_cmp []
unfolding IsStrictlySortedBy
none_sorted = tt

distinct_as : (rows : List Row) → distinct_count row_eq rows ≡ distinct_rows rows
distinct_as [] = refl
distinct_as (row ∷ rows) = by (list_any (row_eq row) rows) (distinct_as rows)
  where
    by : (b : Bool) → distinct_count row_eq rows ≡ distinct_rows rows → length (cond b (unique_keys row_eq rows) (row ∷ unique_keys row_eq rows)) ≡ cond b 0 1 + distinct_rows rows
    by true h = h ∙ omega arith
    by false h = ap suc h ∙ sym (one-add (distinct_rows rows))

-- the rows that were added, counted
length_added : (rows : List Row) → length (rows_added [] rows) ≡ distinct_rows rows
length_added rows =
    length-from_keys (eq_by_cmp_equiv rows_total) (rows_added [] rows) rows (IsDistinct-from_sorted row_cmp (rows_added [] rows) (sorted_added [] rows none_sorted)) (λ q. any_added q [] rows)
    ∙ distinct_as rows

-- rows that are all among others are no more than those
pub distinct_among : (rows others : List Row) → ((row : Row) → list_any (row_eq row) rows ≡ true → list_any (row_eq row) others ≡ true) → distinct_rows rows ≤ length others
distinct_among rows others all =
    subst (λ n. n ≤ length others) (length_added rows)
    (length-le_from_is_member (eq_by_cmp_equiv rows_total) (rows_added [] rows) others (IsDistinct-from_sorted row_cmp (rows_added [] rows) (sorted_added [] rows none_sorted))
    (λ row is. all row (sym (any_added row [] rows) ∙ is)))

-- ---- along the lists of a history

added_both : (seen xs ys : List Row) → rows_added (rows_added seen xs) ys ≡ rows_added seen (xs ++ ys)
added_both seen [] ys = refl
added_both seen (x ∷ xs) ys = added_both (insert_key row_cmp seen x) xs ys

list_added : {X : Type 0} (seen : List Row) (es : List (Row × X)) → with_rows seen es ≡ rows_added seen (map (λ e. e.0) es)
list_added seen [] = refl
list_added seen (e ∷ es) = list_added (insert_key row_cmp seen e.0) es

op_added : (seen : List Row) (op : Op) → with_op seen op ≡ rows_added seen (op_rows op)
op_added seen op =
    list_added (with_rows (with_rows seen (entries op.view)) (entries op.rows)) (entries op.writes)
    ∙ ap (λ s. rows_added s (keys op.writes))
    (list_added (with_rows seen (entries op.view)) (entries op.rows) ∙ ap (λ s. rows_added s (keys op.rows)) (list_added seen (entries op.view))
    ∙ added_both seen (keys op.view) (keys op.rows))
    ∙ added_both seen (keys op.view ++ keys op.rows) (keys op.writes)

ops_added : (seen : List Row) (ops : List Op) → with_ops seen ops ≡ rows_added seen (flat_map op_rows ops)
ops_added seen [] = refl
ops_added seen (op ∷ ops) = ops_added (with_op seen op) ops ∙ ap (λ s. rows_added s (flat_map op_rows ops)) (op_added seen op) ∙ added_both seen (op_rows op) (flat_map op_rows ops)

txns_added : (seen : List Row) (ts : List Txn) → with_txns seen ts ≡ rows_added seen (flat_map op_rows (operations ts))
txns_added seen [] = refl
txns_added seen (t ∷ ts) =
    txns_added (with_ops seen t.ops) ts ∙ ap (λ s. rows_added s (flat_map op_rows (operations ts))) (ops_added seen t.ops)
    ∙ added_both seen (flat_map op_rows t.ops) (flat_map op_rows (operations ts)) ∙ ap (rows_added seen) (sym (flat_map-append op_rows t.ops (operations ts)))

-- those of all lists of a history
abbrev pub rows_in : History → List Row
rows_in h = with_rows (with_rows (with_txns (with_rows [] (entries h.initial)) h.txns) (entries h.installed)) (entries h.end_table)

-- the different rows of a history's lists
pub length_rows_in : (h : History) → length (rows_in h) ≡ distinct_rows (named_rows h)
length_rows_in h = ap length (all_added h) ∙ length_added (named_rows h)
  where
    before_txns : (h : History) → with_txns (with_rows [] (entries h.initial)) h.txns ≡ rows_added [] (keys h.initial ++ flat_map op_rows (operations h.txns))
    before_txns h =
        txns_added (with_rows [] (entries h.initial)) h.txns ∙ ap (λ s. rows_added s (flat_map op_rows (operations h.txns))) (list_added [] (entries h.initial))
        ∙ added_both [] (keys h.initial) (flat_map op_rows (operations h.txns))

    before_end : (h : History) → with_rows (with_txns (with_rows [] (entries h.initial)) h.txns) (entries h.installed) ≡ rows_added []
        (keys h.initial ++ flat_map op_rows (operations h.txns) ++ keys h.installed)
    before_end h =
        list_added (with_txns (with_rows [] (entries h.initial)) h.txns) (entries h.installed) ∙ ap (λ s. rows_added s (keys h.installed)) (before_txns h)
        ∙ added_both [] (keys h.initial ++ flat_map op_rows (operations h.txns)) (keys h.installed)

    all_added : (h : History) → rows_in h ≡ rows_added [] (named_rows h)
    all_added h =
        list_added (with_rows (with_txns (with_rows [] (entries h.initial)) h.txns) (entries h.installed)) (entries h.end_table) ∙ ap (λ s. rows_added s (keys h.end_table)) (before_end h)
        ∙ added_both [] (keys h.initial ++ flat_map op_rows (operations h.txns) ++ keys h.installed) (keys h.end_table)

-- ---- what the code has for them

-- the rows of states are those of the new states
pub states_within : (seen : List Row) (es : List (Row × State)) → rows_within seen es ≡ rows_within seen (new_states es)
states_within seen [] = refl
states_within seen (e ∷ es) = by (nat_le (length (insert_key row_cmp seen e.0)) 1000) (insert_key row_cmp seen e.0) (states_within (insert_key row_cmp seen e.0) es)
  where
    by : (few : Bool) (more : List Row) → rows_within more es ≡ rows_within more (new_states es)
        → option_and_then (λ rows. rows_within rows es) (only_if few more) ≡ option_and_then (λ rows. rows_within rows (new_states es)) (only_if few more)
    by true more same = same
    by false more same = refl
