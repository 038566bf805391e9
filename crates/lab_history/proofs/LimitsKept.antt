-- The limits on tables, ids and entries, where the counts are known.
use Rattle.std.{proofs.{Common.{◌≡◌, ◌≤◌, ◌<◌, ℕ, map, sum, Some, None, Ok, Err, ap, ◌∙◌}, lemmas.Bool.{lt-ltb, le-ltb}}, specs.Prelude.{⊤, nat_lt, Result}}
use Rattle.lab_history.specs.{Faults.{◌>>=◌, refused_if}, History.{History}, HistoryRules.{operations, named_tables, distinct_tables, named_rows, distinct_rows, op_entries}, WithinLimits.{within_limits}, RunningCounts.{txns_counted}, declared.fault.FileFault.{FileFault}}
use Rattle.lab_history.specs.declared.fault.FileFault.TheVariants as fault
use Rattle.lab_history.specs.declared.fault.Limit.TheVariants as limit
use Rattle.lab_history.proofs.CountedEntries.{few_entries, many_entries}

-- whether there are too many ids, and whether there are too many entries
abbrev ids_refused : History → Result ⊤ FileFault
ids_refused h = refused_if (nat_lt 1000 (distinct_rows (named_rows h))) (fault.OverLimit limit.Ids)

abbrev entries_refused : History → Result ⊤ FileFault
entries_refused h = refused_if (nat_lt 200000 (sum (map op_entries (operations h.txns)))) (fault.OverLimit limit.Entries)

-- there are few tables: the ids and the entries decide
few_tables : (h : History) → distinct_tables (named_tables h) ≤ 4 → within_limits h ≡ (ids_refused h >>= λ _. entries_refused h)
few_tables h few =
    ap (λ b. refused_if b (fault.OverLimit limit.Tables) >>= λ _. ids_refused h >>= λ _. entries_refused h) (le-ltb 4 (distinct_tables (named_tables h)) few)

-- there are few ids too: the entries decide
few_ids : (h : History) → distinct_tables (named_tables h) ≤ 4 → distinct_rows (named_rows h) ≤ 1000 → within_limits h ≡ entries_refused h
few_ids h tables few =
    few_tables h tables ∙ ap (λ b. refused_if b (fault.OverLimit limit.Ids) >>= λ _. entries_refused h) (le-ltb 1000 (distinct_rows (named_rows h)) few)

pub limits_kept : (h : History) → distinct_tables (named_tables h) ≤ 4 → distinct_rows (named_rows h) ≤ 1000 → sum (map op_entries (operations h.txns)) ≤ 200000 → within_limits h ≡ Ok tt
limits_kept h tables ids entries =
    few_ids h tables ids ∙ ap (λ b. refused_if b (fault.OverLimit limit.Entries)) (le-ltb 200000 (sum (map op_entries (operations h.txns))) entries)

pub entries_within : (h : History) (n : ℕ) → distinct_tables (named_tables h) ≤ 4 → distinct_rows (named_rows h) ≤ 1000 → txns_counted 0 h.txns ≡ Some n → within_limits h ≡ Ok tt
entries_within h n tables ids is = limits_kept h tables ids (few_entries h.txns n is)

pub entries_over : (h : History) → distinct_tables (named_tables h) ≤ 4 → distinct_rows (named_rows h) ≤ 1000 → txns_counted 0 h.txns ≡ None
    → within_limits h ≡ Err (fault.OverLimit limit.Entries)
entries_over h tables ids is =
    few_ids h tables ids ∙ ap (λ b. refused_if b (fault.OverLimit limit.Entries)) (lt-ltb 200000 (sum (map op_entries (operations h.txns))) (many_entries h.txns is))

pub ids_over : (h : History) → distinct_tables (named_tables h) ≤ 4 → 1000 < distinct_rows (named_rows h) → within_limits h ≡ Err (fault.OverLimit limit.Ids)
ids_over h tables many =
    few_tables h tables ∙ ap (λ b. refused_if b (fault.OverLimit limit.Ids) >>= λ _. entries_refused h) (lt-ltb 1000 (distinct_rows (named_rows h)) many)

pub tables_over : (h : History) → 4 < distinct_tables (named_tables h) → within_limits h ≡ Err (fault.OverLimit limit.Tables)
tables_over h many =
    ap (λ b. refused_if b (fault.OverLimit limit.Tables) >>= λ _. ids_refused h >>= λ _. entries_refused h) (lt-ltb 4 (distinct_tables (named_tables h)) many)
