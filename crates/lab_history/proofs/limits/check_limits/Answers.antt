use Rattle.std.proofs.{Common.{◌≤◌, ◌<◌, ◌∙◌, inr, sym, ap}, lemmas.Bool.{leb-true, leb-false}}
use Rattle.lab_history.{specs.{HistoryRules.{named_tables, distinct_tables, named_rows, distinct_rows}, RunningCounts.{txns_counted}}, proofs.LimitsKept.{entries_within, entries_over, ids_over, tables_over}}
use Rattle.lab_history.proofs.limits.check_limits.Goals as goal

pub returns-then-not-has_few_tables : goal.returns-then-not-has_few_tables
returns-then-not-has_few_tables c =
    let parts = c.args.parts.now in
    let many : 4 < distinct_tables (named_tables parts) = leb-false (distinct_tables (named_tables parts)) 4 (sym c.has_few_tables.ensures ∙ c.if-not-has_few_tables.true) in
    inr (tables_over parts many)

pub returns-then-not-branch : goal.returns-then-not-branch
returns-then-not-branch c =
    let parts = c.args.parts.now in
    let tables : distinct_tables (named_tables parts) ≤ 4 = leb-true (distinct_tables (named_tables parts)) 4 (sym c.has_few_tables.ensures ∙ c.if-not-has_few_tables.false) in
    let many : 1000 < distinct_rows (named_rows parts) = leb-false (distinct_rows (named_rows parts)) 1000 (sym c.in_ok-has_few_ids.ensures ∙ c.if-not-branch.true) in
    inr (ids_over parts tables many)

pub returns-in-Some : goal.returns-in-Some
returns-in-Some c =
    let parts = c.args.parts.now in
    let tables : distinct_tables (named_tables parts) ≤ 4 = leb-true (distinct_tables (named_tables parts)) 4 (sym c.has_few_tables.ensures ∙ c.if-not-has_few_tables.false) in
    let ids : distinct_rows (named_rows parts) ≤ 1000 = leb-true (distinct_rows (named_rows parts)) 1000 (sym c.in_ok-has_few_ids.ensures ∙ c.if-not-branch.false) in
    entries_within parts c.in-Some.field-0 tables ids (sym (c.count_txns.ensures ∙ ap (txns_counted 0) c.as_slice.ensures) ∙ c.in-Some.is)

pub returns-in-None : goal.returns-in-None
returns-in-None c =
    let parts = c.args.parts.now in
    let tables : distinct_tables (named_tables parts) ≤ 4 = leb-true (distinct_tables (named_tables parts)) 4 (sym c.has_few_tables.ensures ∙ c.if-not-has_few_tables.false) in
    let ids : distinct_rows (named_rows parts) ≤ 1000 = leb-true (distinct_rows (named_rows parts)) 1000 (sym c.in_ok-has_few_ids.ensures ∙ c.if-not-branch.false) in
    inr (entries_over parts tables ids (sym (c.count_txns.ensures ∙ ap (txns_counted 0) c.as_slice.ensures) ∙ c.in-None.is))
