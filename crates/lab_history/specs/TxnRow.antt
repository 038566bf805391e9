-- A transaction with a row, as a key.
use Rattle.std.specs.Prelude.{◌≡◌, ℕ, Bool, nat_eq}
use Rattle.std.specs.Ordering.{nat_cmp, on, then_cmp, eq_by_cmp, eq_of_both}
use Rattle.std.specs.Cmp.{IsTotalOrder, IsEquivalence, nat_cmp_total, both_tied, unsigned_ties, on_total, then_total, nat_eq_equiv, on_equiv, and_equiv}
use Rattle.std.specs.declared.cmp.Ordering.{Ordering}
use Rattle.lab_table.specs.Row.{Row, row_cmp, row_test, rows_total, rows_equiv, rows_tested}

-- the order by transaction, and of one transaction by row
abbrev pub txn_row_cmp : ℕ × Row → ℕ × Row → Ordering
txn_row_cmp = then_cmp (on (λ key. key.0) nat_cmp) (on (λ key. key.1) row_cmp)

-- whether both are the same
abbrev pub txn_row_test : ℕ × Row → ℕ × Row → Bool
txn_row_test = eq_of_both (on (λ key. key.0) nat_eq) (on (λ key. key.1) row_test)

-- the order is total, and the test an equivalence that goes by it
pub txn_rows_total : IsTotalOrder txn_row_cmp
txn_rows_total = then_total (on_total (λ (key : ℕ × Row). key.0) nat_cmp_total) (on_total (λ (key : ℕ × Row). key.1) rows_total)

pub txn_rows_equiv : IsEquivalence txn_row_test
txn_rows_equiv = and_equiv (on_equiv (λ (key : ℕ × Row). key.0) nat_eq_equiv) (on_equiv (λ (key : ℕ × Row). key.1) rows_equiv)

pub txn_rows_tested : (a b : ℕ × Row) → txn_row_test a b ≡ eq_by_cmp txn_row_cmp a b
txn_rows_tested a b = both_tied _ _ (nat_cmp a.0 b.0) (row_cmp a.1 b.1) (unsigned_ties a.0 b.0) (rows_tested a.1 b.1)
