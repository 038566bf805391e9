-- What the comparison of two rows says.
use Rattle.std.{proofs.Common.{◌≡◌, true, false, T, refl, sym, ap, ◌∙◌, subst}, specs.{Ordering.{is_eq, is_lt, is_gt, ordering_reverse}, declared.cmp.Ordering.{Ordering, TheVariants.{Less, Equal, Greater}}}}
use Rattle.lab_table.specs.Row.{Row, row_cmp, rows_total}

-- a test for less
pub is_less : (r : Ordering) → T (is_lt r) → r ≡ Less
is_less Less h = refl
is_less Equal h = absurd h
is_less Greater h = absurd h

-- a test for greater
pub is_greater : (r : Ordering) → is_gt r ≡ true → r ≡ Greater
is_greater Less h = absurd (subst T (sym h) tt)
is_greater Equal h = absurd (subst T (sym h) tt)
is_greater Greater h = refl

-- what is less is not equal
pub less_apart : (r : Ordering) → T (is_lt r) → is_eq r ≡ false
less_apart Less h = refl
less_apart Equal h = absurd h
less_apart Greater h = refl

-- what is equal is so from the other side
pub eq_reversed : (r : Ordering) → is_eq (ordering_reverse r) ≡ is_eq r
eq_reversed Less = refl
eq_reversed Equal = refl
eq_reversed Greater = refl

-- a comparison seen from the other side
pub turned : (a b : Row) → row_cmp a b ≡ Greater → row_cmp b a ≡ Less
turned a b h = rows_total.antisymm b a ∙ ap ordering_reverse h

-- and back
pub turned_back : (a b : Row) → row_cmp a b ≡ Less → row_cmp b a ≡ Greater
turned_back a b h = rows_total.antisymm b a ∙ ap ordering_reverse h

-- a row that comes after one comes after what is below that
pub after_below : (id a b : Row) → row_cmp a b ≡ Less → is_gt (row_cmp id b) ≡ true → is_gt (row_cmp id a) ≡ true
after_below id a b below h = ap is_gt (turned_back a id (rows_total.trans a b id below (turned id b (is_greater _ h))))
