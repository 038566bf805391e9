-- Walks that stop where there are too many different rows, beside those along all lists.
use Rattle.std.proofs.{Common.{◌≡◌, ◌≤◌, ◌<◌, ◌⊎◌, inl, inr, true, false, List, [], ◌∷◌, length, Option, Some, None, refl, sym, ap, ◌∙◌, subst, arith}, lemmas.{Bool.{leb-false, lt-leb}, Option.{none-some, same_Some}}}
use Rattle.std.specs.{Prelude.{nat_le, option_and_then}, Ordering.{match_ordering}, declared.cmp.Ordering.{Ordering, TheVariants.{Less, Equal, Greater}}, BTreeSet.{insert_key}, FinMap.{entries}}
use Rattle.lab_table.specs.Row.{Row, row_cmp}
use Rattle.lab_history.{specs.{History.{History}, HistoryRules.{named_rows, distinct_rows}, RunningCounts.{with_rows, with_op, with_ops, with_txns, only_if, rows_within, op_within, ops_within, txns_within, parts_within}, declared.{operation.Op.{Op}, transaction.Txn.{Txn}}}, proofs.CountedRows.{rows_in, length_rows_in}}

-- ---- lists only grow

grows_by_one : (k : Row) (xs : List Row) → length xs ≤ length (insert_key row_cmp xs k)
grows_by_one k [] = omega arith
grows_by_one k (x ∷ xs) = by (row_cmp k x) (grows_by_one k xs)
  where
    by : (r : Ordering) → length xs ≤ length (insert_key row_cmp xs k) → length (x ∷ xs) ≤ length (match_ordering r (k ∷ x ∷ xs) (x ∷ xs) (x ∷ insert_key row_cmp xs k))
    by Less h = omega arith
    by Equal h = omega arith
    by Greater h = omega (arith, h)

grows : {X : Type 0} (seen : List Row) (es : List (Row × X)) → length seen ≤ length (with_rows seen es)
grows seen [] = omega arith
grows seen (e ∷ es) = omega (arith, grows_by_one e.0 seen, grows (insert_key row_cmp seen e.0) es)

op_grows : (seen : List Row) (op : Op) → length seen ≤ length (with_op seen op)
op_grows seen op =
    let a = with_rows seen (entries op.view) in
    let b = with_rows a (entries op.rows) in
    omega (arith, grows seen (entries op.view), grows a (entries op.rows), grows b (entries op.writes))

ops_grow : (seen : List Row) (ops : List Op) → length seen ≤ length (with_ops seen ops)
ops_grow seen [] = omega arith
ops_grow seen (op ∷ ops) = omega (arith, op_grows seen op, ops_grow (with_op seen op) ops)

txns_grow : (seen : List Row) (ts : List Txn) → length seen ≤ length (with_txns seen ts)
txns_grow seen [] = omega arith
txns_grow seen (t ∷ ts) = omega (arith, ops_grow seen t.ops, txns_grow (with_ops seen t.ops) ts)

-- ---- where a walk ends

-- it met all rows, or there are too many
Ended : Option (List Row) → List Row → Type 0
Ended met all = (met ≡ Some all) ⊎ ((met ≡ None) × (1000 < length all))

few_ended : (rows : List Row) → Ended (only_if (nat_le (length rows) 1000) rows) rows
unfolding Ended
few_ended rows =
    elim (nat_le (length rows) 1000) as (λ b. nat_le (length rows) 1000 ≡ b → Ended (only_if (nat_le (length rows) 1000) rows) rows) [
      | true ↦ λ is. inl (ap (λ b. only_if b rows) is)
      | false ↦ λ is. inr (ap (λ b. only_if b rows) is, leb-false (length rows) 1000 is)
    ] refl

-- a walk goes on from where another ended
goes_on : (met : Option (List Row)) (rows all : List Row) (rest : List Row → Option (List Row)) → Ended met rows → Ended (rest rows) all → length rows ≤ length all → Ended (option_and_then rest met) all
unfolding Ended
goes_on met rows all rest (inl is) then_all le = subst (λ (m : Option (List Row)). Ended (option_and_then rest m) all) (sym is) then_all
goes_on met rows all rest (inr (is, many)) then_all le = inr (ap (option_and_then rest) is, omega (arith, many, le))

rows_ended : {X : Type 0} (seen : List Row) (es : List (Row × X)) → Ended (rows_within seen es) (with_rows seen es)
unfolding Ended
rows_ended seen [] = inl refl
rows_ended seen (e ∷ es) =
    let more = insert_key row_cmp seen e.0 in
    goes_on (only_if (nat_le (length more) 1000) more) more (with_rows more es) (λ rows. rows_within rows es) (few_ended more) (rows_ended more es) (grows more es)

op_ended : (seen : List Row) (op : Op) → Ended (op_within seen op) (with_op seen op)
op_ended seen op =
    let a = with_rows seen (entries op.view) in
    let b = with_rows a (entries op.rows) in
    let listed = goes_on (rows_within seen (entries op.view)) a b (λ rows. rows_within rows (entries op.rows)) (rows_ended seen (entries op.view)) (rows_ended a (entries op.rows)) (grows a (entries op.rows)) in
    goes_on (option_and_then (λ rows. rows_within rows (entries op.rows)) (rows_within seen (entries op.view))) b (with_rows b (entries op.writes)) (λ rows. rows_within rows (entries op.writes)) listed
    (rows_ended b (entries op.writes)) (grows b (entries op.writes))

ops_ended : (seen : List Row) (ops : List Op) → Ended (ops_within seen ops) (with_ops seen ops)
unfolding Ended
ops_ended seen [] = inl refl
ops_ended seen (op ∷ ops) =
    let more = with_op seen op in
    goes_on (op_within seen op) more (with_ops more ops) (λ rows. ops_within rows ops) (op_ended seen op) (ops_ended more ops) (ops_grow more ops)

txns_ended : (seen : List Row) (ts : List Txn) → Ended (txns_within seen ts) (with_txns seen ts)
unfolding Ended
txns_ended seen [] = inl refl
txns_ended seen (t ∷ ts) =
    let more = with_ops seen t.ops in
    goes_on (ops_within seen t.ops) more (with_txns more ts) (λ rows. txns_within rows ts) (ops_ended seen t.ops) (txns_ended more ts) (txns_grow more ts)

-- ---- all lists of a history

module _ (h : History) where
  parts_ended : Ended (parts_within [] h) (rows_in h)
  parts_ended =
      let a = with_rows [] (entries h.initial) in
      let b = with_txns a h.txns in
      let c = with_rows b (entries h.installed) in
      let met_a = rows_within [] (entries h.initial) in
      let met_b = option_and_then (λ rows. txns_within rows h.txns) met_a in
      let met_c = option_and_then (λ rows. rows_within rows (entries h.installed)) met_b in
      let ended_b = goes_on met_a a b (λ rows. txns_within rows h.txns) (rows_ended [] (entries h.initial)) (txns_ended a h.txns) (txns_grow a h.txns) in
      let ended_c = goes_on met_b b c (λ rows. rows_within rows (entries h.installed)) ended_b (rows_ended b (entries h.installed)) (grows b (entries h.installed)) in
      goes_on met_c c (with_rows c (entries h.end_table)) (λ rows. rows_within rows (entries h.end_table)) ended_c (rows_ended c (entries h.end_table)) (grows c (entries h.end_table))

  -- too many on the way are too many at the end
  pub many_on_the_way : parts_within [] h ≡ None → nat_le (distinct_rows (named_rows h)) 1000 ≡ false
  unfolding Ended
  many_on_the_way none = by parts_ended
    where
      by : Ended (parts_within [] h) (rows_in h) → nat_le (distinct_rows (named_rows h)) 1000 ≡ false
      by (inl is) = absurd (none-some _ (sym none ∙ is))
      by (inr (is, many)) = lt-leb (distinct_rows (named_rows h)) 1000 (omega (arith, many, length_rows_in h))

  -- where all were met, they are all
  pub all_met : (ran : List Row) → parts_within [] h ≡ Some ran → length ran ≡ distinct_rows (named_rows h)
  unfolding Ended
  all_met ran is = by parts_ended
    where
      by : Ended (parts_within [] h) (rows_in h) → length ran ≡ distinct_rows (named_rows h)
      by (inl met) = ap length (same_Some _ _ (sym is ∙ met)) ∙ length_rows_in h
      by (inr (none, many)) = absurd (none-some _ (sym none ∙ is))
