-- Places of a list whose rows rise, outside which a statement matches nothing.
use Rattle.std.proofs.{Common.{◌≡◌, ℕ, ℤ, zero, suc, ◌+◌, ◌≤◌, ◌<◌, Bool, true, false, cond, T, Some, List, [], ◌∷◌, length, take, drop, refl, sym, ap, ◌∙◌, subst, arith}, lemmas.{Bool.{false≢true, ltb-true, ltb-false, false_from_ne_true}, List.Sums.{prefix_len_passes, prefix_len_stops}}}
use Rattle.std.specs.{Prelude.{nat_lt, slice_index_or, filter, find, option_map}, Ordering.{is_gt}, List.{prefix_len}, Cmp.Lexicographic.{nat_list_eq_equiv}, FinMap.{is_sorted}}
use Rattle.lab_table.{specs.{Row.{Row, row_cmp}, TableName.{table_name_eq}, Running.{comes_after}, Statement.{may_match}, declared.statement.Statement.{Statement}}, proofs.{RowOrder.{in_one_table, behind_greater}, Searching.{parted}}}
use Rattle.lab_history.specs.declared.operation.Op.{Op}
use Rattle.lab_deps.{specs.{Broken.{is_unlisted}, FirstOf.{first_value}}, proofs.{OwnTable.{own_table}, RuledOut.{may_be_unlisted}}}

-- of rows of one table that with the greater number comes behind
behind_in_table : (row other : Row) → other.table ≡ row.table → is_gt (row_cmp row other) ≡ nat_lt other.id row.id
behind_in_table row other same =
    ap is_gt (in_one_table row other (subst (λ t. table_name_eq row.table t ≡ true) (sym same) (nat_list_eq_equiv.refl row.table))) ∙ behind_greater row.id other.id

module _ {V : Type 0} (s : Statement) (row : Row) (own : row.table ≡ s.table) (es : List (Row × V)) (sorted : T (is_sorted row_cmp es)) where
  -- before the row of the least number that may match
  pub none_before : ((other : Row) → may_match s other ≡ true → row.id ≤ other.id) → (k : ℕ) (d : Row × V) → k < prefix_len (comes_after row) es → may_match s (slice_index_or es k d).0 ≡ false
  none_before least k d low =
      false_from_ne_true _
      (λ may.
      let other = (slice_index_or es k d).0 in
      let less : other.id < row.id = ltb-true other.id row.id (sym (behind_in_table row other (own_table s other may ∙ sym own)) ∙ prefix_len_passes (comes_after row) es k d low) in
      absurd (omega (arith, less, least other may)))

  -- the row doesn't come after what stands at its place or behind it
  not_after : (k : ℕ) (d : Row × V) → prefix_len (comes_after row) es ≤ k → k < length es → comes_after row (slice_index_or es k d) ≡ false
  not_after k d at below =
      let place = prefix_len (comes_after row) es in
      false_from_ne_true _ (λ after. false≢true (sym (prefix_len_stops (comes_after row) es d (omega (arith, at, below))) ∙ parted row es sorted place k d at below after))

  -- from the row behind the greatest number that may match on
  pub none_behind : ((other : Row) → may_match s other ≡ true → other.id < row.id) → (k : ℕ) (d : Row × V) → prefix_len (comes_after row) es ≤ k → k < length es
      → may_match s (slice_index_or es k d).0 ≡ false
  none_behind beyond k d at below =
      false_from_ne_true _
      (λ may.
      let other = (slice_index_or es k d).0 in
      let more : row.id ≤ other.id = ltb-false other.id row.id (sym (behind_in_table row other (own_table s other may ∙ sym own)) ∙ not_after k d at below) in
      absurd (omega (arith, more, beyond other may)))

module _ {A : Type 0} (test : A → Bool) where
  -- where nothing passes a test, nothing is left by it
  none_left : (xs : List A) → ((k : ℕ) (d : A) → k < length xs → test (slice_index_or xs k d) ≡ false) → filter test xs ≡ []
  none_left [] fails = refl
  none_left (x ∷ xs) fails =
      ap (λ b. cond b (x ∷ filter test xs) (filter test xs)) (fails 0 x (omega arith)) ∙ none_left xs (λ k d below. fails (suc k) d (omega (arith, below)))

  -- where nothing does from a place on, the part before it has all
  left_before : (xs : List A) (to : ℕ) → ((k : ℕ) (d : A) → to ≤ k → k < length xs → test (slice_index_or xs k d) ≡ false) → filter test (take to xs) ≡ filter test xs
  left_before [] zero fails = refl
  left_before [] (suc to) fails = refl
  left_before (x ∷ xs) zero fails = sym (none_left (x ∷ xs) (λ k d below. fails k d (omega arith) below))
  left_before (x ∷ xs) (suc to) fails =
      let rest = left_before xs to (λ k d at below. fails (suc k) d (omega (arith, at)) (omega (arith, below))) in
      ap (λ ys. cond (test x) (x ∷ ys) ys) rest

  -- where nothing does before a place either, the part between the places has all
  pub left_between : (xs : List A) (from count : ℕ) → ((k : ℕ) (d : A) → k < from → k < length xs → test (slice_index_or xs k d) ≡ false)
      → ((k : ℕ) (d : A) → from + count ≤ k → k < length xs → test (slice_index_or xs k d) ≡ false) → filter test (take count (drop from xs)) ≡ filter test xs
  left_between xs zero count before behind = left_before xs count (λ k d at below. behind k d (omega (arith, at)) below)
  left_between [] (suc from) zero before behind = refl
  left_between [] (suc from) (suc count) before behind = refl
  left_between (x ∷ xs) (suc from) count before behind =
      left_between xs from count (λ k d low below. before (suc k) d (omega (arith, low)) (omega (arith, below)))
      (λ k d at below. behind (suc k) d (omega (arith, at)) (omega (arith, below)))
      ∙ sym (ap (λ b. cond b (x ∷ filter test xs) (filter test xs)) (before 0 x (omega arith) (omega arith)))

-- what passes a test is found among what is left by a weaker one
pub first_of_left : {A : Type 0} (test : Row → A → Bool) (weaker : Row → Bool) → ((row : Row) (x : A) → test row x ≡ true → weaker row ≡ true) → (es : List (Row × A))
    → first_value test (filter (λ e. weaker e.0) es) ≡ first_value test es
first_of_left test weaker implied [] = refl
first_of_left {A = A} test weaker implied (e ∷ es) = at (weaker e.0) refl (first_of_left test weaker implied es)
  where
    left : List (Row × A)
    left = filter (λ e. weaker e.0) es

    at : (b : Bool) → weaker e.0 ≡ b → first_value test left ≡ first_value test es → first_value test (cond b (e ∷ left) left) ≡ cond (test e.0 e.1) (Some e.0) (first_value test es)
    at true is rest = ap (cond (test e.0 e.1) (Some e.0)) rest
    at false is rest =
        rest
        ∙ sym (ap (λ b. cond b (Some e.0) (first_value test es)) (false_from_ne_true _ (λ passes. false≢true (sym is ∙ implied e.0 e.1 passes))))

-- the row of the first entry that passes a test
pub first_found : {A : Type 0} (test : Row → A → Bool) (es : List (Row × A)) → option_map (λ e. e.0) (find (λ e. test e.0 e.1) es) ≡ first_value test es
first_found test [] = refl
first_found test (e ∷ es) =
    elim (test e.0 e.1) as (λ b. option_map (λ e. e.0) (cond b (Some e) (find (λ e. test e.0 e.1) es)) ≡ cond b (Some e.0) (first_value test es)) [
      | true ↦ refl
      | false ↦ first_found test es
    ]

-- the first row that is unlisted is found among the entries that may match
pub unlisted_within : (op : Op) (part es : List (Row × ℤ)) → filter (λ e. may_match op.statement e.0) part ≡ filter (λ e. may_match op.statement e.0) es
    → first_value (is_unlisted op) part ≡ first_value (is_unlisted op) es
unlisted_within op part es same =
    let kept = first_of_left (is_unlisted op) (may_match op.statement) (may_be_unlisted op) in
    sym (kept part) ∙ (ap (first_value (is_unlisted op)) same ∙ kept es)
