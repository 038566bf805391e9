-- An entry that is put into a list that is sorted by rows.
use Rattle.std.proofs.Common.{◌≡◌, ℕ, ◌+◌, true, false, cond, T, List, [], ◌∷◌, ◌++◌, take, drop, length, refl, sym, ap, ◌∙◌, subst, slice_get, slice_set, one-add}
use Rattle.std.specs.List.{prefix_len, insert as insert_at}
use Rattle.std.specs.Ordering.{is_eq, is_gt}
use Rattle.std.specs.declared.cmp.Ordering.{Ordering, TheVariants.{Less, Equal, Greater}}
use Rattle.std.specs.FinMap.{FinMap, is_sorted, from_sorted, empty, empty_of_len, len-entries, insert, put, same_entries_map, entries-insert, entries-from_sorted}
use Rattle.std.specs.FinMap.Entries.{by_order, is_sorted-put}
use Rattle.lab_table.specs.{Row.{Row, row_cmp, row_test, rows_total, rows_apart, rows_tested}, Running.{comes_after}, Placed.{is_row, is_row_at}}

-- nothing is both true and not
never : (P : Type 0) → false ≡ true → P
never P h = absurd (subst T (sym h) tt)

-- a row tests as the one that it is
pub is_own : (a b : Row) (r : Ordering) → row_cmp a b ≡ r → row_test a b ≡ is_eq r
is_own a b r q = rows_tested a b ∙ ap is_eq q

-- the map of no entries
pub no_entry : {V : Type 0} (es : List (Row × V)) → es ≡ [] → from_sorted {R = row_cmp} es ≡ empty
no_entry es none = ap (λ l. from_sorted {R = row_cmp} l) none ∙ empty_of_len _ (len-entries _ ∙ ap length (entries-from_sorted row_cmp [] tt))

module _ {V : Type 0} (row : Row) (v : V) where
  -- a value in the place of the row's own
  replaced : (es : List (Row × V)) → is_row_at es (prefix_len (comes_after row) es) row ≡ true → slice_set es (prefix_len (comes_after row) es) (row, v) ≡ put row_cmp row v es
  replaced [] h = never _ h
  replaced (e ∷ es) h = at (λ own. replaced es own) (row_cmp row e.0) refl h
    where
      at : (is_row_at es (prefix_len (comes_after row) es) row ≡ true → slice_set es (prefix_len (comes_after row) es) (row, v) ≡ put row_cmp row v es)
          → (r : Ordering) → row_cmp row e.0 ≡ r → is_row row (slice_get (e ∷ es) (cond (is_gt r) (1 + prefix_len (comes_after row) es) 0)) ≡ true
          → slice_set (e ∷ es) (cond (is_gt r) (1 + prefix_len (comes_after row) es) 0) (row, v) ≡ by_order r ((row, v) ∷ e ∷ es) ((e.0, v) ∷ es) (e ∷ put row_cmp row v es)
      at rest Less q own = never _ (sym (is_own row e.0 Less q) ∙ own)
      at rest Equal q own = ap (λ k. (k, v) ∷ es) (rows_apart row e.0 q)
      at rest Greater q own =
          let step = one-add (prefix_len (comes_after row) es) in
          ap (λ n. slice_set (e ∷ es) n (row, v)) step ∙ ap (λ l. e ∷ l) (rest (sym (ap (λ n. is_row row (slice_get (e ∷ es) n)) step) ∙ own))

  -- a value before those that come after the row, none of which is its own
  inserted : (es : List (Row × V)) → is_row_at es (prefix_len (comes_after row) es) row ≡ false
      → take (prefix_len (comes_after row) es) es ++ (row, v) ∷ drop (prefix_len (comes_after row) es) es ≡ put row_cmp row v es
  inserted [] h = refl
  inserted (e ∷ es) h = at (λ own. inserted es own) (row_cmp row e.0) refl h
    where
      at : (is_row_at es (prefix_len (comes_after row) es) row ≡ false → take (prefix_len (comes_after row) es) es ++ (row, v) ∷ drop (prefix_len (comes_after row) es) es ≡ put row_cmp row v es)
          → (r : Ordering) → row_cmp row e.0 ≡ r → is_row row (slice_get (e ∷ es) (cond (is_gt r) (1 + prefix_len (comes_after row) es) 0)) ≡ false
          → take (cond (is_gt r) (1 + prefix_len (comes_after row) es) 0) (e ∷ es) ++ (row, v) ∷ drop (cond (is_gt r) (1 + prefix_len (comes_after row) es) 0) (e ∷ es)
          ≡ by_order r ((row, v) ∷ e ∷ es) ((e.0, v) ∷ es) (e ∷ put row_cmp row v es)
      at rest Less q own = refl
      at rest Equal q own = never _ (sym own ∙ is_own row e.0 Equal q)
      at rest Greater q own =
          let step = one-add (prefix_len (comes_after row) es) in
          ap (λ n. take n (e ∷ es) ++ (row, v) ∷ drop n (e ∷ es)) step
          ∙ ap (λ l. e ∷ l) (rest (sym (ap (λ n. is_row row (slice_get (e ∷ es) n)) step) ∙ own))

  -- the entries with the one that was put are in order
  pub put_sorted : (es news : List (Row × V)) → T (is_sorted row_cmp es) → news ≡ put row_cmp row v es → T (is_sorted row_cmp news)
  put_sorted es news h is = subst (λ l. T (is_sorted row_cmp l)) (sym is) (is_sorted-put row_cmp rows_total row v es h)

  -- they are the map with that entry
  pub put_map : (es news : List (Row × V)) (old : FinMap row_cmp V) → T (is_sorted row_cmp es) → from_sorted es ≡ old → news ≡ put row_cmp row v es → from_sorted {R = row_cmp} news ≡ insert old row v
  put_map es news old h view is =
      same_entries_map _ _ (
      entries-from_sorted row_cmp news (put_sorted es news h is) ∙ is
      ∙ sym (entries-insert rows_total (from_sorted es) row v ∙ ap (put row_cmp row v) (entries-from_sorted row_cmp es h))
      )
      ∙ ap (λ m. insert m row v) view

  -- the same, as `put_entry` finds it
  pub replaced_at : (es seen tested : List (Row × V)) (n : ℕ) → seen ≡ es → tested ≡ es → n ≡ prefix_len (comes_after row) seen → is_row_at tested n row ≡ true
      → slice_set es n (row, v) ≡ put row_cmp row v es
  replaced_at es seen tested n is also place own =
      let at : n ≡ prefix_len (comes_after row) es = place ∙ ap (prefix_len (comes_after row)) is in
      ap (λ k. slice_set es k (row, v)) at ∙ replaced es (sym (ap (λ l. is_row_at l n row) also ∙ ap (λ k. is_row_at es k row) at) ∙ own)

  pub inserted_at : (es seen tested : List (Row × V)) (n : ℕ) → seen ≡ es → tested ≡ es → n ≡ prefix_len (comes_after row) seen → is_row_at tested n row ≡ false
      → insert_at es n (row, v) ≡ put row_cmp row v es
  inserted_at es seen tested n is also place own =
      let at : n ≡ prefix_len (comes_after row) es = place ∙ ap (prefix_len (comes_after row)) is in
      ap (λ k. insert_at es k (row, v)) at ∙ inserted es (sym (ap (λ l. is_row_at l n row) also ∙ ap (λ k. is_row_at es k row) at) ∙ own)
