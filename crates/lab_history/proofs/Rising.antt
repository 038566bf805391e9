-- Rows that rise strictly, looked at from the front.
use Rattle.std.{proofs.Common.{◌≡◌, Bool, true, false, ◌&&◌, T, List, [], ◌∷◌, Option, Some, None, refl, ap, ◌∙◌}, specs.{Ordering.{is_lt}, FinMap.{is_sorted, Entries.{below_all}}, declared.cmp.Ordering.{Ordering, TheVariants.{Less, Equal, Greater}}}}
use Rattle.lab_table.{specs.Row.{Row, row_cmp}, proofs.SortedRows.{lower}}
use Rattle.lab_history.specs.RowOrder.{follows}

-- whether the rows rise strictly behind a row
abbrev pub rises_after : {X : Type 0} → Option Row → List (Row × X) → Bool
rises_after before [] = true
rises_after before (e ∷ es) = follows before e.0 && rises_after (Some e.0) es

-- a test that follows from another adds nothing to it
absorbed : (a b c : Bool) → (T a → T b) → (a && c) ≡ (b && (a && c))
absorbed true true c f = refl
absorbed true false c f = absurd (f tt)
absorbed false true c f = refl
absorbed false false c f = refl

-- the order of neighbours is the order of all
neighbours : {X : Type 0} (row : Row) (e : Row × X) (es : List (Row × X)) (o : Ordering) → row_cmp row e.0 ≡ o
    → (is_lt o && (below_all row_cmp e.0 es && is_sorted row_cmp es)) ≡ ((is_lt o && below_all row_cmp row es) && (below_all row_cmp e.0 es && is_sorted row_cmp es))
neighbours row e es Less before = absorbed (below_all row_cmp e.0 es) (below_all row_cmp row es) (is_sorted row_cmp es) (lower row e.0 es before)
neighbours row e es Equal before = refl
neighbours row e es Greater before = refl

-- behind a row: all rows come after it, and they are sorted
rises_after_row : {X : Type 0} (row : Row) (es : List (Row × X)) → rises_after (Some row) es ≡ (below_all row_cmp row es && is_sorted row_cmp es)
rises_after_row row [] = refl
rises_after_row row (e ∷ es) = ap (λ b. is_lt (row_cmp row e.0) && b) (rises_after_row e.0 es) ∙ neighbours row e es (row_cmp row e.0) refl

-- rows that rise one after the other are sorted
pub rises_all : {X : Type 0} (es : List (Row × X)) → rises_after None es ≡ is_sorted row_cmp es
rises_all [] = refl
rises_all (e ∷ es) = rises_after_row e.0 es
