-- A list of rows that rises from one row of a range to another has rows of that range alone.
use Rattle.std.proofs.Common.{◌≡◌, ℕ, ◌-◌, ◌≤◌, ◌<◌, Bool, true, false, ◌&&◌, ◌||◌, T, List, [], ◌∷◌, length, Some, refl, sym, ap, subst, ◌∙◌, arith}
use Rattle.std.specs.{Prelude.{slice_get}, List.{list_any, list_all}, FinMap.{is_sorted, Entries.{below_all}}, Cmp.Lexicographic.{bytes_decides}, declared.cmp.Ordering.TheVariants.{Less}}
use Rattle.std.proofs.lemmas.{Bool.{false≢true, and_parts, and_from, leb-true, ltb-true, le-leb, lt-ltb}, Cmp.{ranked}, Option.{same_Some, get_or_from_slice_get}}
use Rattle.std.proofs.Math.Bool.{or-true}
use Rattle.lab_table.{specs.{Row.{Row, row_cmp, of_table}, TableName.{table_name_eq}, Placed.{is_of}}, proofs.{RowOrder.{in_one_table}, SortedRows.{below_at}, OneTable.{all_are}, Tests.{both}}}
use Rattle.lab_history.specs.{IdRanges.{has_ends, has_row, have_row}, declared.id_range.IdRange.{IdRange}}

-- lesser rows of a table have lesser numbers
ids_rise : (table : List ℕ) (a b : Row) → a.table ≡ table → b.table ≡ table → row_cmp a b ≡ Less → a.id < b.id
ids_rise table a b of_a of_b less =
    let same : table_name_eq a.table b.table ≡ true = (bytes_decides a.table b.table).1 (of_a ∙ sym of_b) in
    ranked a.id b.id Less (sym less ∙ in_one_table a b same)

-- what passes for each of a list, a weaker test does too
weaker : {X : Type 0} (p q : X → Bool) (xs : List X) → ((x : X) → p x ≡ true → q x ≡ true) → list_all p xs ≡ true → list_all q xs ≡ true
weaker p q [] then_q all = refl
weaker p q (x ∷ xs) then_q all =
    let parts = and_parts (p x) (list_all p xs) all in
    ap (λ b. b && list_all q xs) (then_q x parts.0) ∙ weaker p q xs then_q parts.1

module _ {V : Type 0} where
  module _ (range : IdRange) where
    has : (e : Row × V) → e.0.table ≡ range.table → range.least ≤ e.0.id → e.0.id < range.end → has_row range e.0 ≡ true
    has e of least end = and_from _ _ (and_from _ _ ((bytes_decides range.table e.0.table).1 (sym of)) (le-leb _ _ least)) (lt-ltb _ _ end)

    between : (e : Row × V) (es : List (Row × V)) (last : Row × V) → T (is_sorted row_cmp (e ∷ es)) → list_all (is_of range.table) (e ∷ es) ≡ true
        → slice_get (e ∷ es) (length es) ≡ Some last → last.0.table ≡ range.table → range.least ≤ e.0.id → last.0.id < range.end → list_all (λ x. has_row range x.0) (e ∷ es) ≡ true
    between e [] last sorted all g of_last least end =
        let parts = and_parts (is_of range.table e) true all in
        ap (λ b. b && true) (has e (of_table range.table e.0 parts.0) least (subst (λ (y : Row × V). y.0.id < range.end) (sym (same_Some e last g)) end))
    between e (x ∷ xs) last sorted all g of_last least end =
        let order = both (below_all row_cmp e.0 (x ∷ xs)) (is_sorted row_cmp (x ∷ xs)) sorted in
        let tables = and_parts (is_of range.table e) (list_all (is_of range.table) (x ∷ xs)) all in
        let of = of_table range.table e.0 tables.0 in
        let of_next = of_table range.table x.0 (and_parts (is_of range.table x) (list_all (is_of range.table) xs) tables.1).0 in
        let next = ids_rise range.table e.0 x.0 of of_next (below_at e.0 (x ∷ xs) 0 e order.0 (omega arith)) in
        let less : row_cmp e.0 last.0 ≡ Less =
        ap (λ (y : Row × V). row_cmp e.0 y.0) (sym (get_or_from_slice_get (x ∷ xs) (length xs) last last g)) ∙ below_at e.0 (x ∷ xs) (length xs) last order.0 (omega arith) in
        let behind = ids_rise range.table e.0 last.0 of of_last less in
        ap (λ b. b && list_all (λ y. has_row range y.0) (x ∷ xs)) (has e of least (omega arith)) ∙ between x xs last order.1 tables.1 g of_last (omega arith) end

  -- where a range has the ends, it has all
  all_between : (range : IdRange) (es : List (Row × V)) (first last : Row × V) → T (is_sorted row_cmp es) → slice_get es 0 ≡ Some first → slice_get es (length es - 1) ≡ Some last
      → has_ends range first.0 last.0 ≡ true → list_all (λ e. has_row range e.0) es ≡ true
  all_between range [] first last sorted f l ends = refl
  all_between range (e ∷ es) first last sorted f l ends =
      let above = and_parts (table_name_eq range.table first.0.table && table_name_eq range.table last.0.table && _) _ ends in
      let within = and_parts (table_name_eq range.table first.0.table && table_name_eq range.table last.0.table) _ above.0 in
      let tables = and_parts (table_name_eq range.table first.0.table) _ within.0 in
      let of_first = sym ((bytes_decides range.table first.0.table).0 tables.0) in
      let of_last = sym ((bytes_decides range.table last.0.table).0 tables.1) in
      let all = all_are range.table (e ∷ es) first last sorted f l of_first of_last in
      let least : range.least ≤ e.0.id = subst (λ (y : Row × V). range.least ≤ y.0.id) (sym (same_Some e first f)) (leb-true _ _ within.1) in
      let behind : length (e ∷ es) - 1 ≡ length es = omega arith in
      between range e es last sorted all (subst (λ n. slice_get (e ∷ es) n ≡ Some last) behind l) of_last least (ltb-true _ _ above.1)

  -- where one of the ranges has the ends, they have all
  pub ends_suffice : (ranges : List IdRange) (es : List (Row × V)) (first last : Row × V) → T (is_sorted row_cmp es) → slice_get es 0 ≡ Some first → slice_get es (length es - 1) ≡ Some last
      → list_any (λ range. has_ends range first.0 last.0) ranges ≡ true → list_all (λ e. have_row ranges e.0) es ≡ true
  ends_suffice [] es first last sorted f l any = absurd (false≢true any)
  ends_suffice (r ∷ rs) es first last sorted f l any = by (has_ends r first.0 last.0) refl any (ends_suffice rs es first last sorted f l)
    where
      by : (b : Bool) → has_ends r first.0 last.0 ≡ b → (b || list_any (λ range. has_ends range first.0 last.0) rs) ≡ true
          → (list_any (λ range. has_ends range first.0 last.0) rs ≡ true → list_all (λ e. have_row rs e.0) es ≡ true) → list_all (λ e. have_row (r ∷ rs) e.0) es ≡ true
      by true is h rest = weaker _ (λ e. have_row (r ∷ rs) e.0) es (λ e has. ap (λ b. b || have_row rs e.0) has) (all_between r es first last sorted f l is)
      by false is h rest = weaker _ (λ e. have_row (r ∷ rs) e.0) es (λ e has. ap (λ b. has_row r e.0 || b) has ∙ or-true _) (rest h)
