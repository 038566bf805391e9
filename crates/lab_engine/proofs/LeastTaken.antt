-- The least of some rows that somebody has taken, row by row.
use Rattle.lab_engine.{proofs.Common.{ap, Conflict, false, get_or, inl, inr, is_eq, is_less, is_lt, IsBelow, length, List, list_any, list_any_more, None, Option, or_cases, or_left, or_right, refl, Row, row_cmp, row_eq, row_eq_self, rows_total, same_row, Some, subst, sym, T, take, true, true≢false, Write, ℕ, ◌+◌, ◌<◌, ◌||◌, ◌∙◌, ◌≡◌}, specs.Taken.{comes_before, IsAmong, IsLeastTaken}}

-- no row is below itself
not_below : (row other : Row) → IsBelow row other → row_eq row other ≡ true → ⊥
not_below row other below same = true≢false (sym same ∙ ap is_eq below)

before_less : (row other : Row) → is_lt (row_cmp row other) ≡ true → IsBelow row other
before_less row other before = is_less (row_cmp row other) (subst (λ b. T b) (sym before) tt)

module _ (taken : Row → Option ℕ) (rows : List Row) (i : ℕ) (row : Row) (lt : i < length rows) (is : row ≡ get_or rows i row) where
  -- a row is among one row more
  among_more : (q : Row) → list_any (row_eq q) (take (i + 1) rows) ≡ (list_any (row_eq q) (take i rows) || row_eq q row)
  among_more q = list_any_more (row_eq q) rows i row lt ∙ ap (λ r. list_any (row_eq q) (take i rows) || row_eq q r) (sym is)

  old_among : (q : Row) → IsAmong q (take i rows) → IsAmong q (take (i + 1) rows)
  old_among q there = among_more q ∙ or_left (list_any (row_eq q) (take i rows)) (row_eq q row) there

  -- of which something holds that holds of those before and of it
  each_among : (P : Row → Type 0) (q : Row) → (IsAmong q (take i rows) → P q) → P row → IsAmong q (take (i + 1) rows) → P q
  each_among P q old own there = elim (or_cases (list_any (row_eq q) (take i rows)) (row_eq q row) (sym (among_more q) ∙ there)) [
    | inl before ↦ old before
    | inr same ↦ subst P (sym (same_row q row same)) own
  ]

  -- one that comes before what was found, and is taken
  pub least_new : (least : Option Conflict) (by : ℕ) → IsLeastTaken taken (take i rows) least → comes_before row least ≡ true → taken row ≡ Some by
      → IsLeastTaken taken (take (i + 1) rows) (Some (record { kind = Write; row = row; by = by }))
  least_new least by h before is_taken = (
    refl,
    among_more row ∙ or_right (list_any (row_eq row) (take i rows)) (row_eq row row) (row_eq_self row),
    is_taken,
    λ q below there. each_among (λ r. IsBelow r row → taken r ≡ None) q (λ old less. earlier least q h before less old) (λ less. absurd (not_below row row less (row_eq_self row))) there below,
  )
    where
      earlier : (least : Option Conflict) (q : Row) → IsLeastTaken taken (take i rows) least → comes_before row least ≡ true → IsBelow q row → IsAmong q (take i rows) → taken q ≡ None
      earlier None q h before below old = h q old
      earlier (Some found) q h before below old = h.3 q (rows_total.trans q row found.row below (before_less row found.row before)) old

  -- one that nobody has taken
  pub least_untaken : (least : Option Conflict) → IsLeastTaken taken (take i rows) least → taken row ≡ None → IsLeastTaken taken (take (i + 1) rows) least
  least_untaken None h none = λ q there. each_among (λ r. taken r ≡ None) q (h q) none there
  least_untaken (Some found) h none = (
    h.0,
    old_among found.row h.1,
    h.2,
    λ q below there. each_among (λ r. taken r ≡ None) q (h.3 q below) none there,
  )

  -- one that comes behind what was found
  pub least_behind : (least : Option Conflict) → IsLeastTaken taken (take i rows) least → comes_before row least ≡ false → IsLeastTaken taken (take (i + 1) rows) least
  least_behind None h behind = absurd (true≢false behind)
  least_behind (Some found) h behind = (
    h.0,
    old_among found.row h.1,
    h.2,
    λ q below there. each_among (λ r. IsBelow r found.row → taken r ≡ None) q (λ old less. h.3 q less old) (λ less. absurd (true≢false (sym (ap is_lt less) ∙ behind))) there below,
  )
