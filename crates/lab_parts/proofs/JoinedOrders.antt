-- A run in an order and one behind it are a run in both orders, one behind the other.
use Rattle.std.{proofs.{Common.{◌≡◌, ℕ, ◌+◌, ◌<◌, ◌≤◌, ◌==◌, cond, List, ◌++◌, map, sym, ap, ◌∙◌, subst, arith, ◌⊎◌, inl, inr}, lemmas.Bool.{cases_lt}}, specs.Prelude.{count_by, flat_map}}
use Rattle.lab_history.specs.{History.{History}, Version.{outcome_of, ops_of}, declared.operation.Op.{Op}}
use Rattle.lab_deps.{proofs.Places.{times, times_count}, specs.Soundness.{has_committed}}
use Rattle.lab_judge.{specs.Runs.{HoldsEachOnce, table_after, RunAsRecorded, IsSerialRun}, proofs.{AppendedRuns.{table_after-append, run-append}, CountedNumbers.{times-append}}}
use Rattle.lab_parts.{specs.Whole.{above_all, moved, moved_op, joined}, proofs.{JoinedTxns.{nobody_above, first_or_second, outcome_first, outcome_second}, MovedRuns.{table_moved, run_moved, all_of_both}, NumbersBehind.{times_behind, times_before}}}

module _ (h : History) (ns : List ℕ) (once : HoldsEachOnce h ns) where
  -- a number that no transaction has doesn't stand there
  pub none_stands : (n : ℕ) → above_all h.txns ≤ n → times n ns ≡ 0
  none_stands n le = times_count n ns ∙ once n ∙ ap (λ o. cond (has_committed o) 1 0) (nobody_above h n le)

  -- so those that stand there are below the least number above all
  pub stands_below : (n : ℕ) → 1 ≤ times n ns → n < above_all h.txns
  stands_below n some = elim (cases_lt n (above_all h.txns)) [
    | inl less ↦ less
    | inr le ↦ absurd (omega (arith, some, none_stands n le))
  ]

module _ (a b : History) (ns ms : List ℕ) (once : HoldsEachOnce a ns) (also : HoldsEachOnce b ms) where
  abbrev Once : ℕ → Type 0
  Once n = count_by (λ m. m == n) (ns ++ map (moved a) ms) ≡ cond (has_committed (outcome_of (joined a b) n)) 1 0

  -- both hold each committed one of both once
  pub both_once : HoldsEachOnce (joined a b) (ns ++ map (moved a) ms)
  both_once n = at (first_or_second a b n)
    where
      counted : (x : ℕ) → count_by (λ m. m == x) (ns ++ map (moved a) ms) ≡ times x ns + times x (map (moved a) ms)
      counted x = sym (times_count x (ns ++ map (moved a) ms)) ∙ times-append x ns (map (moved a) ms)

      first : (x : ℕ) → x < above_all a.txns → times x ns + times x (map (moved a) ms) ≡ times x ns
      first x less = omega (arith, times_before (above_all a.txns) x ms less)

      second : (m : ℕ) → times (moved a m) ns + times (moved a m) (map (moved a) ms) ≡ times m ms
      second m = omega (arith, none_stands a ns once (moved a m) (omega arith), times_behind (above_all a.txns) m ms)

      at : (n < above_all a.txns) ⊎ ((m : ℕ) × (n ≡ moved a m)) → Once n
      at (inl less) = counted n ∙ first n less ∙ times_count n ns ∙ once n ∙ ap (λ o. cond (has_committed o) 1 0) (sym (outcome_first a b n less))
      at (inr (m, is)) =
          subst Once (sym is) (counted (moved a m) ∙ second m ∙ times_count m ms ∙ also m ∙ ap (λ o. cond (has_committed o) 1 0) (sym (outcome_second a b m)))

-- of two parts
pub both_serial : (a b : History) (ns ms : List ℕ) → IsSerialRun a ns → IsSerialRun b ms → a.end_table ≡ b.initial → IsSerialRun (joined a b) (ns ++ map (moved a) ms)
both_serial a b ns ms p q fits =
    let front : List Op = flat_map (ops_of a) ns in
    let back : List Op = flat_map (ops_of b) ms in
    let parts : flat_map (ops_of (joined a b)) (ns ++ map (moved a) ms) ≡ front ++ map (moved_op a) back = all_of_both a b ns ms (stands_below a ns p.each_once) in
    let seam : table_after front a.initial ≡ b.initial = p.ends ∙ fits in
    record {
      each_once = both_once a b ns ms p.each_once q.each_once;
      runs = subst (λ ops. RunAsRecorded ops a.initial) (sym parts)
          (run-append front (map (moved_op a) back) a.initial p.runs (subst (RunAsRecorded (map (moved_op a) back)) (sym seam) (run_moved a back b.initial q.runs)));
      ends = ap (λ ops. table_after ops a.initial) parts
          ∙ table_after-append front (map (moved_op a) back) a.initial
          ∙ ap (table_after (map (moved_op a) back)) seam
          ∙ table_moved a back b.initial
          ∙ q.ends;
    }
