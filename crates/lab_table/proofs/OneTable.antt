-- Sorted lists of rows of one table: their rows are found by their numbers.
use Rattle.std.proofs.{Common.{◌≡◌, ℕ, zero, suc, ◌-◌, ◌<◌, ◌≤◌, ◌&&◌, true, false, T, List, [], ◌∷◌, length, Some, refl, sym, ap, ◌∙◌, subst, arith}, lemmas.{Bool.{false≢true, and_parts}, Option.{none-some, same_Some, get_or_from_slice_get}}}
use Rattle.std.specs.Prelude.{nat_lt, slice_get, slice_index_or}
use Rattle.std.specs.List.{list_all, prefix_len}
use Rattle.std.specs.List.Sorted.{IsPartitionedBy, IsPartitionPoint}
use Rattle.std.specs.Cmp.Lexicographic.{nat_list_cmp_total, nat_list_eq_equiv, bytes_decides, texts_ties}
use Rattle.std.specs.Ordering.{ordering_then, ordering_reverse, is_eq, is_gt}
use Rattle.std.specs.declared.cmp.Ordering.{Ordering, TheVariants.{Less, Equal, Greater}}
use Rattle.std.specs.FinMap.{is_sorted}
use Rattle.std.specs.FinMap.Entries.{below_all}
use Rattle.lab_table.{specs.{Row.{Row, row_cmp, is_in, numbered, of_table}, TableName.{table_name_cmp, table_name_eq}, Running.{comes_after}, Placed.{is_of}}, proofs.{RowOrder.{in_one_table, behind_greater}, Searching.{parted, point_is}, SortedRows.{below_at}, Tests.{both}}}

-- the table of a lesser row doesn't come behind
not_behind : (a b : Row) → row_cmp a b ≡ Less → is_gt (table_name_cmp a.table b.table) ≡ false
not_behind a b less = at (table_name_cmp a.table b.table) _ less
  where
    at : (r o : Ordering) → ordering_then r o ≡ Less → is_gt r ≡ false
    at Less o e = refl
    at Equal o e = refl
    at Greater o e = absurd cc

-- two tables of which neither comes behind the other are one
neither_behind : (s t : List ℕ) → is_gt (table_name_cmp s t) ≡ false → is_gt (table_name_cmp t s) ≡ false → t ≡ s
neither_behind s t not_s not_t = at (table_name_cmp t s) refl
  where
    at : (r : Ordering) → table_name_cmp t s ≡ r → t ≡ s
    at Less e = absurd (false≢true (sym not_s ∙ ap is_gt (nat_list_cmp_total.antisymm s t ∙ ap ordering_reverse e)))
    at Equal e = (bytes_decides t s).0 (texts_ties t s ∙ ap is_eq e)
    at Greater e = absurd (false≢true (sym not_t ∙ ap is_gt e))

-- a row between two of a table is of it
between : (table : List ℕ) (a b c : Row) → a.table ≡ table → c.table ≡ table → row_cmp a b ≡ Less → row_cmp b c ≡ Less → b.table ≡ table
between table a b c of_a of_c low high =
    neither_behind table b.table (subst (λ t. is_gt (table_name_cmp t b.table) ≡ false) of_a (not_behind a b low)) (subst (λ t. is_gt (table_name_cmp b.table t) ≡ false) of_c (not_behind b c high))

own : (table : List ℕ) (row : Row) → row.table ≡ table → is_in table row ≡ true
own table row of = subst (λ t. table_name_eq t table ≡ true) (sym of) (nat_list_eq_equiv.refl table)

module _ {V : Type 0} (table : List ℕ) where
  with_first : (e : Row × V) (es : List (Row × V)) → e.0.table ≡ table → list_all (is_of table) es ≡ true → list_all (is_of table) (e ∷ es) ≡ true
  with_first e es of rest = ap (λ b. b && list_all (is_of table) es) (own table e.0 of) ∙ rest

  -- where the first and the last are of a table, all are
  all_between : (e : Row × V) (es : List (Row × V)) (last : Row × V) → T (is_sorted row_cmp (e ∷ es)) → slice_get (e ∷ es) (length es) ≡ Some last → e.0.table ≡ table → last.0.table ≡ table
      → list_all (is_of table) (e ∷ es) ≡ true
  all_between e [] last sorted g first of = with_first e [] first refl
  all_between e (x ∷ []) last sorted g first of = with_first e (x ∷ []) first (with_first x [] (ap (λ (y : Row × V). y.0.table) (same_Some x last g) ∙ of) refl)
  all_between e (x ∷ y ∷ ys) last sorted g first of =
      let outer = both (below_all row_cmp e.0 (x ∷ y ∷ ys)) (is_sorted row_cmp (x ∷ y ∷ ys)) sorted in
      let inner = both (below_all row_cmp x.0 (y ∷ ys)) (is_sorted row_cmp (y ∷ ys)) outer.1 in
      let low : row_cmp e.0 x.0 ≡ Less = below_at e.0 (x ∷ y ∷ ys) 0 x outer.0 (omega arith) in
      let high : row_cmp x.0 last.0 ≡ Less =
      ap (λ (l : Row × V). row_cmp x.0 l.0) (sym (get_or_from_slice_get (y ∷ ys) (length ys) last last g)) ∙ below_at x.0 (y ∷ ys) (length ys) last inner.0 (omega arith) in
      with_first e (x ∷ y ∷ ys) first (all_between x (y ∷ ys) last outer.1 g (between table e.0 x.0 last.0 first of low high) of)

  pub all_are : (es : List (Row × V)) (first last : Row × V) → T (is_sorted row_cmp es) → slice_get es 0 ≡ Some first → slice_get es (length es - 1) ≡ Some last → first.0.table ≡ table → last.0.table ≡ table
      → list_all (is_of table) es ≡ true
  all_are [] first last sorted f l of_first of_last = absurd (none-some first f)
  all_are (e ∷ es) first last sorted f l of_first of_last =
      let behind : length (e ∷ es) - 1 ≡ length es = omega arith in
      all_between e es last sorted (subst (λ n. slice_get (e ∷ es) n ≡ Some last) behind l) (ap (λ (y : Row × V). y.0.table) (same_Some e first f) ∙ of_first) of_last

  -- each of a list is of the table
  at_place : (es : List (Row × V)) (k : ℕ) (d : Row × V) → list_all (is_of table) es ≡ true → k < length es → (slice_index_or es k d).0.table ≡ table
  at_place [] k d all l = absurd (omega arith)
  at_place (e ∷ es) zero d all l = of_table table e.0 (and_parts (is_of table e) (list_all (is_of table) es) all).0
  at_place (e ∷ es) (suc k) d all l = at_place es k d (and_parts (is_of table e) (list_all (is_of table) es) all).1 (omega arith)

  module _ (number : ℕ) where
    -- in its table a row comes after those of a lesser number
    alike : (e : Row × V) → e.0.table ≡ table → nat_lt e.0.id number ≡ comes_after (numbered table number) e
    alike e of =
        sym (ap is_gt (in_one_table (numbered table number) e.0 (subst (λ t. table_name_eq table t ≡ true) (sym of) (nat_list_eq_equiv.refl table))) ∙ behind_greater number e.0.id)

    module _ (es : List (Row × V)) (sorted : T (is_sorted row_cmp es)) (all : list_all (is_of table) es ≡ true) where
      alike_at : (k : ℕ) (d : Row × V) → k < length es → nat_lt (slice_index_or es k d).0.id number ≡ comes_after (numbered table number) (slice_index_or es k d)
      alike_at k d l = alike (slice_index_or es k d) (at_place es k d all l)

      -- so numbers part such a list
      pub parted_numbers : IsPartitionedBy (λ e. nat_lt e.0.id number) es
      parted_numbers i j d le lt t = alike_at i d (omega arith) ∙ parted (numbered table number) es sorted i j d le lt (sym (alike_at j d lt) ∙ t)

      -- at the place of the row
      pub number_point : (n : ℕ) → n ≤ length es → IsPartitionPoint (λ e. nat_lt e.0.id number ≡ true) (λ e. nat_lt e.0.id number ≡ false) es n → n ≡ prefix_len (comes_after (numbered table number)) es
      number_point n bound h =
          point_is (comes_after (numbered table number)) es n bound
          ((λ k d low high. sym (alike_at k d (omega arith)) ∙ h.0 k d low high), (λ k d low high. sym (alike_at k d (omega arith)) ∙ h.1 k d low high))
