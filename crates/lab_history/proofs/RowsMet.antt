-- A row that is looked for in a rising list, and put there.
use Rattle.std.proofs.Common.{◌≡◌, ℕ, zero, suc, true, false, T, List, [], ◌∷◌, length, map, refl, sym, ap, ◌∙◌, subst, arith}
use Rattle.std.specs.Ordering.{is_lt, match_ordering}
use Rattle.std.specs.declared.cmp.Ordering.{Ordering, TheVariants.{Less, Equal, Greater}}
use Rattle.std.specs.BTreeSet.{insert_key}
use Rattle.std.specs.FinMap.{FinMap, empty, entries, keys, insert, put, is_sorted, entries_sorted, entries-insert, len-entries, len-empty}
use Rattle.std.specs.FinMap.Entries.{below_all, by_order}
use Rattle.std.specs.Cmp.{tied_itself}
use Rattle.lab_table.{specs.{Row.{Row, row_cmp, rows_total}, Placed.{is_row_at}}, proofs.{Maps.{tested_same}, Orderings.{is_less, turned_back}, Tests.{both}}}

-- nothing is both false and true
never : (P : Type 0) → false ≡ true → P
never P h = absurd (subst T (sym h) tt)

-- no entry has a row
nothing : {X : Type 0} (es : List X) → length es ≡ 0 → es ≡ []
nothing [] h = refl
nothing (e ∷ es) h = absurd (omega (arith, h))

pub keys_empty : (V : Type 0) → keys {X = V} {R = row_cmp} empty ≡ []
keys_empty V = ap (map (λ e. e.0)) (nothing (entries {X = V} {R = row_cmp} empty) (sym (len-entries empty) ∙ len-empty row_cmp V))

module _ {V : Type 0} where
  -- what is below all rows of a list is below the row at a place
  below_row : (x row : Row) (es : List (Row × V)) (place : ℕ) → T (below_all row_cmp x es) → is_row_at es place row ≡ true → row_cmp x row ≡ Less
  below_row x row [] place b h = never _ h
  below_row x row (e ∷ es) zero b h =
      ap (row_cmp x) (tested_same row e.0 h) ∙ is_less _ (both (is_lt (row_cmp x e.0)) (below_all row_cmp x es) b).0
  below_row x row (e ∷ es) (suc k) b h = below_row x row es k (both (is_lt (row_cmp x e.0)) (below_all row_cmp x es) b).1 h

  -- a row that stands at a place of a rising list is in it already
  pub present : (row : Row) (es : List (Row × V)) (place : ℕ) → T (is_sorted row_cmp es) → is_row_at es place row ≡ true
      → insert_key row_cmp (map (λ e. e.0) es) row ≡ map (λ e. e.0) es
  present row [] place s h = never _ h
  present row (e ∷ es) zero s h =
      ap (λ r. match_ordering r (row ∷ map (λ e. e.0) (e ∷ es)) (map (λ e. e.0) (e ∷ es)) (e.0 ∷ insert_key row_cmp (map (λ e. e.0) es) row))
      (ap (row_cmp row) (sym (tested_same row e.0 h)) ∙ tied_itself rows_total row)
  present row (e ∷ es) (suc k) s h =
      let parts = both (below_all row_cmp e.0 es) (is_sorted row_cmp es) s in
      ap (λ r. match_ordering r (row ∷ map (λ e. e.0) (e ∷ es)) (map (λ e. e.0) (e ∷ es)) (e.0 ∷ insert_key row_cmp (map (λ e. e.0) es) row))
      (turned_back e.0 row (below_row e.0 row es k parts.0 h))
      ∙ ap (λ l. e.0 ∷ l) (present row es k parts.1 h)

  -- the rows of entries to which one was put are theirs with its row
  put_rows : (row : Row) (v : V) (es : List (Row × V)) → map (λ e. e.0) (put row_cmp row v es) ≡ insert_key row_cmp (map (λ e. e.0) es) row
  put_rows row v [] = refl
  put_rows row v (e ∷ es) = by (row_cmp row e.0) (put_rows row v es)
    where
      by : (r : Ordering) → map (λ e. e.0) (put row_cmp row v es) ≡ insert_key row_cmp (map (λ e. e.0) es) row
          → map (λ e. e.0) (by_order r ((row, v) ∷ e ∷ es) ((e.0, v) ∷ es) (e ∷ put row_cmp row v es))
          ≡ match_ordering r (row ∷ map (λ e. e.0) (e ∷ es)) (map (λ e. e.0) (e ∷ es)) (e.0 ∷ insert_key row_cmp (map (λ e. e.0) es) row)
      by Less h = refl
      by Equal h = refl
      by Greater h = ap (λ l. e.0 ∷ l) h

  pub keys_insert : (m : FinMap row_cmp V) (row : Row) (v : V) → keys (insert m row v) ≡ insert_key row_cmp (keys m) row
  keys_insert m row v = ap (map (λ e. e.0)) (entries-insert rows_total m row v) ∙ put_rows row v (entries m)

  pub keys_present : (m : FinMap row_cmp V) (row : Row) (place : ℕ) → is_row_at (entries m) place row ≡ true → insert_key row_cmp (keys m) row ≡ keys m
  keys_present m row place h = present row (entries m) place (entries_sorted m) h
