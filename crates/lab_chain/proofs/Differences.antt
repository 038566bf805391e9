-- Where two tables say otherwise.
use Rattle.std.proofs.{Common.{◌≡◌, ◌≢◌, Bool, true, false, ◌&&◌, ℤ, T, cond, Some, None, List, [], ◌∷◌, refl, sym, ap, ◌∙◌, subst}, lemmas.{Bool.{false≢true, and_parts}, Option.{none-some, same_Some}}}
use Rattle.std.specs.{FinMap.{find, is_sorted, entries, entries_sorted, get-entries, same_entries_map, Entries.{below_all}}, Cmp.{signed_Decides}, Ordering.{int_eq, is_eq, is_le}, declared.cmp.Ordering.{Ordering, TheVariants.{Less, Equal, Greater}}}
use Rattle.lab_table.{specs.{Row.{Row, row_cmp, row_eq, row_test, row_le, rows_total}, Table.{Table}}, proofs.{Maps.{find_below, same_row, row_eq_self, tested_same, tests_itself}, Orderings.{turned}, SortedRows.{lower}, Tests.{both}}}
use Rattle.lab_chain.specs.Difference.{lesser, same_entry, parted, first_difference, IsLeastDifference}

abbrev Entries : Type 0
Entries = List (Row × ℤ)

-- ---- the same lists
-- entries that test alike are one
one_entry : (e f : Row × ℤ) → same_entry e f ≡ true → e ≡ f
one_entry e f same =
    let parts : (row_test e.0 f.0 ≡ true) × (int_eq e.1 f.1 ≡ true) = and_parts (row_test e.0 f.0) (int_eq e.1 f.1) same in
    let rows : e.0 ≡ f.0 = tested_same e.0 f.0 parts.0 in
    let values : e.1 ≡ f.1 = (signed_Decides e.1 f.1).0 parts.1 in
    λ i. (rows i, values i)

tests_as_itself : (e : Row × ℤ) → same_entry e e ≡ true
tests_as_itself e = ap (λ b. b && int_eq e.1 e.1) (tests_itself e.0) ∙ (signed_Decides e.1 e.1).1 refl

same_lists : (es fs : Entries) → parted es fs ≡ None → es ≡ fs
same_lists [] [] none = refl
same_lists [] (f ∷ fs) none = absurd (none-some f.0 (sym none))
same_lists (e ∷ es) [] none = absurd (none-some e.0 (sym none))
same_lists (e ∷ es) (f ∷ fs) none = at (same_entry e f) refl none (same_lists es fs)
  where
    at : (b : Bool) → same_entry e f ≡ b → cond b (parted es fs) (Some (lesser e.0 f.0)) ≡ None → (parted es fs ≡ None → es ≡ fs) → e ∷ es ≡ f ∷ fs
    at true same rest behind = ap (λ x. x ∷ es) (one_entry e f same) ∙ ap (λ xs. f ∷ xs) (behind rest)
    at false other rest behind = absurd (none-some (lesser e.0 f.0) (sym rest))

not_parted : (es : Entries) → parted es es ≡ None
not_parted [] = refl
not_parted (e ∷ es) = ap (λ b. cond b (parted es es) (Some (lesser e.0 e.0))) (tests_as_itself e) ∙ not_parted es

pub same_tables : (a b : Table) → first_difference a b ≡ None → a ≡ b
same_tables a b none = same_entries_map a b (same_lists (entries a) (entries b) none)

pub no_difference : (a b : Table) → a ≡ b → first_difference a b ≡ None
no_difference a b same = subst (λ t. first_difference a t ≡ None) same (not_parted (entries a))

-- ---- the least row that differs
-- a row is the least of which two lists say otherwise
record IsLeast (es fs : Entries) (row : Row) : Type 0 where
  differs : find row_cmp row es ≢ find row_cmp row fs
  least : (other : Row) → find row_cmp other es ≢ find row_cmp other fs → row_le row other ≡ true

found_first : (e : Row × ℤ) (es : Entries) → find row_cmp e.0 (e ∷ es) ≡ Some e.1
found_first e es = ap (λ b. cond b (Some e.1) (find row_cmp e.0 es)) (row_eq_self e.0)

-- a row less than the first isn't found
none_less : (row : Row) (e : Row × ℤ) (es : Entries) → T (is_sorted row_cmp (e ∷ es)) → row_cmp row e.0 ≡ Less → find row_cmp row (e ∷ es) ≡ None
none_less row e es sorted less =
    ap (λ r. cond (is_eq r) (Some e.1) (find row_cmp row es)) less ∙ find_below row es (lower row e.0 es less (both (below_all row_cmp e.0 es) (is_sorted row_cmp es) sorted).0)

-- a row that isn't less than another comes before it or is it
not_less : (x y : Row) → (row_cmp y x ≡ Less → ⊥) → row_le x y ≡ true
not_less x y never = at (row_cmp x y) refl
  where
    at : (r : Ordering) → row_cmp x y ≡ r → is_le r ≡ true
    at Less is = refl
    at Equal is = refl
    at Greater is = absurd (never (turned x y is))

other_way : (es fs : Entries) (row : Row) → IsLeast es fs row → IsLeast fs es row
other_way es fs row l = record { differs = λ same. l.differs (sym same); least = λ other apart. l.least other (λ same. apart (sym same)) }

first_alone : (e : Row × ℤ) (es : Entries) → T (is_sorted row_cmp (e ∷ es)) → IsLeast (e ∷ es) [] e.0
first_alone e es sorted = record {
  differs = λ same. none-some e.1 (sym same ∙ found_first e es);
  least = λ other apart. not_less e.0 other (λ less. apart (none_less other e es sorted less));
}

module _ (e f : Row × ℤ) (es fs : Entries) (sorted : T (is_sorted row_cmp (e ∷ es))) (also : T (is_sorted row_cmp (f ∷ fs))) where
  -- the first of one list, where it is less than that of the other
  first_less : row_cmp e.0 f.0 ≡ Less → IsLeast (e ∷ es) (f ∷ fs) e.0
  first_less before = record {
    differs = λ same. none-some e.1 (sym (same ∙ none_less e.0 f fs also before) ∙ found_first e es);
    least = λ other apart. not_less e.0 other (λ less. apart (none_less other e es sorted less ∙ sym (none_less other f fs also (rows_total.trans other e.0 f.0 less before))));
  }

  -- the first of both
  first_of_both : e.0 ≡ f.0 → (e.1 ≡ f.1 → ⊥) → IsLeast (e ∷ es) (f ∷ fs) e.0
  first_of_both rows values = record {
    differs = λ same. values (same_Some e.1 f.1 (sym (found_first e es) ∙ same ∙ ap (λ r. find row_cmp r (f ∷ fs)) rows ∙ found_first f fs));
    least = λ other apart. not_less e.0 other (λ less. apart (none_less other e es sorted less ∙ sym (none_less other f fs also (sym (ap (row_cmp other) rows) ∙ less))));
  }

  -- one behind an entry that both have
  behind_both : e ≡ f → (row : Row) → IsLeast es fs row → IsLeast (e ∷ es) (f ∷ fs) row
  behind_both heads row l = record {
    differs = λ same. at (row_eq row e.0) refl (same ∙ sym (ap (λ x. find row_cmp row (x ∷ fs)) heads));
    least = λ other apart. l.least other (λ same. apart (ap (λ o. cond (row_eq other e.0) (Some e.1) o) same ∙ ap (λ x. find row_cmp other (x ∷ fs)) heads));
  }
    where
      at : (b : Bool) → row_eq row e.0 ≡ b → cond (row_eq row e.0) (Some e.1) (find row_cmp row es) ≡ cond (row_eq row e.0) (Some e.1) (find row_cmp row fs) → ⊥
      at true is same =
          let rows : row ≡ e.0 = same_row row e.0 is in
          l.differs (ap (λ r. find row_cmp r es) rows ∙ find_below e.0 es (both (below_all row_cmp e.0 es) (is_sorted row_cmp es) sorted).0
          ∙ sym (ap (λ r. find row_cmp r fs) (rows ∙ ap (λ x. x.0) heads) ∙ find_below f.0 fs (both (below_all row_cmp f.0 fs) (is_sorted row_cmp fs) also).0))
      at false is same = l.differs (sym (ap (λ b. cond b (Some e.1) (find row_cmp row es)) is) ∙ same ∙ ap (λ b. cond b (Some e.1) (find row_cmp row fs)) is)

-- the lesser one of two first entries that differ
lesser_first : (e f : Row × ℤ) (es fs : Entries) → T (is_sorted row_cmp (e ∷ es)) → T (is_sorted row_cmp (f ∷ fs)) → same_entry e f ≡ false → IsLeast (e ∷ es) (f ∷ fs) (lesser e.0 f.0)
lesser_first e f es fs sorted also apart = at (row_cmp e.0 f.0) refl
  where
    at : (r : Ordering) → row_cmp e.0 f.0 ≡ r → IsLeast (e ∷ es) (f ∷ fs) (cond (is_le r) e.0 f.0)
    at Less is = first_less e f es fs sorted also is
    at Greater is = other_way (f ∷ fs) (e ∷ es) f.0 (first_less f e fs es also sorted (turned e.0 f.0 is))
    at Equal is =
        let rows : e.0 ≡ f.0 = same_row e.0 f.0 (ap is_eq is) in
        first_of_both e f es fs sorted also rows
        (λ values. false≢true (sym apart ∙ ap (same_entry e) (sym (λ i. (rows i, values i))) ∙ tests_as_itself e))

least_parted : (es fs : Entries) → T (is_sorted row_cmp es) → T (is_sorted row_cmp fs) → (row : Row) → parted es fs ≡ Some row → IsLeast es fs row
least_parted [] [] sorted also row is = absurd (none-some row is)
least_parted [] (f ∷ fs) sorted also row is = other_way (f ∷ fs) [] row (subst (IsLeast (f ∷ fs) []) (same_Some f.0 row is) (first_alone f fs also))
least_parted (e ∷ es) [] sorted also row is = subst (IsLeast (e ∷ es) []) (same_Some e.0 row is) (first_alone e es sorted)
least_parted (e ∷ es) (f ∷ fs) sorted also row is =
    at (same_entry e f) refl is (least_parted es fs (both (below_all row_cmp e.0 es) (is_sorted row_cmp es) sorted).1 (both (below_all row_cmp f.0 fs) (is_sorted row_cmp fs) also).1 row)
  where
    at : (b : Bool) → same_entry e f ≡ b → cond b (parted es fs) (Some (lesser e.0 f.0)) ≡ Some row → (parted es fs ≡ Some row → IsLeast es fs row) → IsLeast (e ∷ es) (f ∷ fs) row
    at true same rest behind = behind_both e f es fs sorted also (one_entry e f same) row (behind rest)
    at false other rest behind = subst (IsLeast (e ∷ es) (f ∷ fs)) (same_Some (lesser e.0 f.0) row rest) (lesser_first e f es fs sorted also other)

pub least_difference : (a b : Table) (row : Row) → first_difference a b ≡ Some row → IsLeastDifference a b row
least_difference a b row is =
    let l : IsLeast (entries a) (entries b) row = least_parted (entries a) (entries b) (entries_sorted a) (entries_sorted b) row is in record {
      differs = λ same. l.differs (sym (get-entries a row) ∙ same ∙ get-entries b row);
      least = λ other apart. l.least other (λ same. apart (get-entries a other ∙ same ∙ sym (get-entries b other)));
    }
