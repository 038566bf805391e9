-- Which of two rows is below.
use Rattle.std.{proofs.Common.{◌≡◌, ◌∙◌, refl, sym, ap, subst, Bool, true, false, T, is_lt, is_eq, Less, Equal, Greater}, specs.declared.cmp.Ordering.{Ordering}}
use Rattle.lab_engine.proofs.Common.{Row, row_cmp, rows_total, same_row, row_eq, row_eq_self, is_less, turned, IsBelow, true≢false}

-- a row that is less is below
pub before_less : (row other : Row) → is_lt (row_cmp row other) ≡ true → IsBelow row other
before_less row other before = is_less (row_cmp row other) (subst (λ b. T b) (sym before) tt)

-- no row is below itself
pub not_below : (row other : Row) → IsBelow row other → row ≡ other → ⊥
not_below row other below same = true≢false (sym (row_eq_self other) ∙ ap (λ r. row_eq r other) (sym same) ∙ ap is_eq below)

-- what is below a row is below one that isn't below that
pub below_other : (row one other : Row) → IsBelow row one → is_lt (row_cmp other one) ≡ false → IsBelow row other
below_other row one other below behind = at (row_cmp other one) refl behind
  where
    at : (o : Ordering) → row_cmp other one ≡ o → is_lt o ≡ false → IsBelow row other
    at Less is h = absurd (true≢false h)
    at Equal is h = subst (λ r. IsBelow row r) (sym (same_row other one (ap is_eq is))) below
    at Greater is h = rows_total.trans row one other below (turned other one is)
