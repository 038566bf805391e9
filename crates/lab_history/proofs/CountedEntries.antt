-- Entries counted along the lists are their sum, where that is within the limit.
use Rattle.std.proofs.{Common.{◌≡◌, ◌≤◌, ◌<◌, ℕ, suc, ◌+◌, true, false, List, [], ◌∷◌, length, map, sum, Option, Some, None, refl, sym, ap, ◌∙◌, arith}, lemmas.{Bool.{leb-true, leb-false, le-leb, lt-leb}, List.{map-append, Sums.{sum_by-cons, sum_by-append}}, Option.{none-some}}}
use Rattle.std.specs.{Prelude.{nat_le, option_and_then, if◌then◌else◌}, FinMap.{entries}}
use Rattle.lab_table.specs.Row.{Row}
use Rattle.lab_history.specs.{VersionName.{new_states}, declared.{operation.{State.{State}, Op.{Op}}, transaction.Txn.{Txn}}, HistoryRules.{operations, op_entries}, RunningCounts.{counted, op_counted, ops_counted, txns_counted}}

-- new states are as many as the states
pub length_new_states : (es : List (Row × State)) → length (new_states es) ≡ length es
length_new_states [] = refl
length_new_states (e ∷ es) = ap suc (length_new_states es)

counted_yes : (total n : ℕ) → total + n ≤ 200000 → counted total n ≡ Some (total + n)
counted_yes total n h = ap (λ b. if b then Some (total + n) else None) (le-leb (total + n) 200000 h)

counted_no : (total n : ℕ) → 200000 < total + n → counted total n ≡ None
counted_no total n h = ap (λ b. if b then Some (total + n) else None) (lt-leb (total + n) 200000 h)

-- what is counted after a count is counted together with it
counted_then : (more : ℕ → Option ℕ) (total n m : ℕ) → (total + n ≤ 200000 → more (total + n) ≡ counted (total + n) m) → option_and_then more (counted total n) ≡ counted total (n + m)
counted_then more total n m then_more =
    elim (nat_le (total + n) 200000) as (λ b. nat_le (total + n) 200000 ≡ b → option_and_then more (counted total n) ≡ counted total (n + m)) [
      | true ↦ λ is.
          ap (option_and_then more) (counted_yes total n (leb-true (total + n) 200000 is)) ∙ then_more (leb-true (total + n) 200000 is)
          ∙ ap (λ (k : ℕ). if nat_le k 200000 then Some k else None) (omega arith)
      | false ↦ λ isnt.
          ap (option_and_then more) (counted_no total n (leb-false (total + n) 200000 isnt))
          ∙ sym (counted_no total (n + m) (omega (arith, leb-false (total + n) 200000 isnt)))
    ] refl

op_total : (total : ℕ) (op : Op) → op_counted total op ≡ counted total (op_entries op)
op_total total op =
    counted_then (λ more. option_and_then (λ most. counted most (length (entries op.writes))) (counted more (length (entries op.rows)))) total (length (entries op.view))
    (length (entries op.rows) + length (entries op.writes))
    (λ _. counted_then (λ most. counted most (length (entries op.writes))) (total + length (entries op.view)) (length (entries op.rows)) (length (entries op.writes)) (λ _. refl))
    ∙ ap (counted total) (omega arith)

none_more : (total : ℕ) → total ≤ 200000 → Some total ≡ counted total 0
none_more total h = ap (λ k. Some k) (omega arith) ∙ sym (counted_yes total 0 (omega (arith, h)))

ops_total : (total : ℕ) (ops : List Op) → total ≤ 200000 → ops_counted total ops ≡ counted total (sum (map op_entries ops))
ops_total total [] h = none_more total h
ops_total total (op ∷ ops) h =
    ap (option_and_then (λ more. ops_counted more ops)) (op_total total op)
    ∙ counted_then (λ more. ops_counted more ops) total (op_entries op) (sum (map op_entries ops)) (λ few. ops_total (total + op_entries op) ops few)
    ∙ ap (counted total) (sym (sum_by-cons (λ n. n) (op_entries op) (map op_entries ops)))

-- the entries of transactions, counted
txns_total : (total : ℕ) (ts : List Txn) → total ≤ 200000 → txns_counted total ts ≡ counted total (sum (map op_entries (operations ts)))
txns_total total [] h = none_more total h
txns_total total (t ∷ ts) h =
    ap (option_and_then (λ more. txns_counted more ts)) (ops_total total t.ops h)
    ∙ counted_then (λ more. txns_counted more ts) total (sum (map op_entries t.ops)) (sum (map op_entries (operations ts))) (λ few. txns_total (total + sum (map op_entries t.ops)) ts few)
    ∙ ap (counted total) (sym (ap sum (map-append op_entries t.ops (operations ts)) ∙ sum_by-append (λ n. n) (map op_entries t.ops) (map op_entries (operations ts))))

-- the count from nothing
all_total : (ts : List Txn) → txns_counted 0 ts ≡ counted 0 (sum (map op_entries (operations ts)))
all_total ts = txns_total 0 ts (omega arith)

-- a count comes where it is within the limit
pub few_entries : (ts : List Txn) (n : ℕ) → txns_counted 0 ts ≡ Some n → sum (map op_entries (operations ts)) ≤ 200000
few_entries ts n is =
    let all = sum (map op_entries (operations ts)) in
    elim (nat_le all 200000) as (λ b. nat_le all 200000 ≡ b → all ≤ 200000) [
      | true ↦ λ few. leb-true all 200000 few
      | false ↦ λ many. absurd (none-some _ (sym (counted_no 0 all (omega (arith, leb-false all 200000 many))) ∙ sym (all_total ts) ∙ is))
    ] refl

-- and only there
pub many_entries : (ts : List Txn) → txns_counted 0 ts ≡ None → 200000 < sum (map op_entries (operations ts))
many_entries ts is =
    let all = sum (map op_entries (operations ts)) in
    elim (nat_le all 200000) as (λ b. nat_le all 200000 ≡ b → 200000 < all) [
      | true ↦ λ few. absurd (none-some _ (sym is ∙ all_total ts ∙ counted_yes 0 all (omega (arith, leb-true all 200000 few))))
      | false ↦ λ many. leb-false all 200000 many
    ] refl

-- an operation's count, where the first two of its lists were counted
pub counts_met : (total : ℕ) (op : Op) (more most : ℕ) → Some more ≡ counted total (length (entries op.view)) → Some most ≡ counted more (length (entries op.rows))
    → counted most (length (entries op.writes)) ≡ op_counted total op
counts_met total op more most view rows =
    ap (option_and_then (λ n. counted n (length (entries op.writes)))) rows
    ∙ ap (option_and_then (λ m. option_and_then (λ n. counted n (length (entries op.writes))) (counted m (length (entries op.rows))))) view
