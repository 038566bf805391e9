-- What is made of each row that is seen, row by row, and which row keeps a statement from running.
use Rattle.lab_engine.proofs.Common.{ap, AreMatching, below_all, both, change_is, cond, cons_option, each_row, fails, false, find, find_below, inserted, is_lt, is_read_only, is_sorted, joined, List, listed, new_states, None, Option, option_and_then, option_map, option_or, refl, Row, row_cmp, row_eq, same_row, Some, State, state_value, Statement, StatementKind, stored, subst, sym, T, true, value_rewritten, Version, with_row, Written, written, [], ℕ, ℤ, ◌∙◌, ◌∷◌, ◌≡◌, or_none, matched}
use Rattle.lab_table.specs.{Statement.{kind_inserted, kind_listed, kind_matched, rewritten}, declared.statement.StatementKind.TheVariants.{Insert}}

-- before others a row is found with what is made of it
pub find_made : {B : Type 0} (q row : Row) (rest : List (Row × B)) (o : Option B) → find row_cmp q (cons_option (with_row row o) rest) ≡ cond (row_eq q row) (option_or o (find row_cmp q rest)) (find row_cmp q rest)
find_made q row rest (Some b) = refl
find_made q row rest None = elim (row_eq q row) as (λ t. find row_cmp q rest ≡ cond t (find row_cmp q rest) (find row_cmp q rest)) [ true ↦ refl | false ↦ refl ]

module _ {A B : Type 0} (f : Row → A → Option B) where
  below_each : (x : Row) (es : List (Row × A)) → T (below_all row_cmp x es) → T (below_all row_cmp x (each_row f es))
  below_each x [] h = tt
  below_each x (e ∷ es) h =
      let parts = both (is_lt (row_cmp x e.0)) (below_all row_cmp x es) h in
      let rest = below_each x es parts.1 in
      elim (f e.0 e.1) as (λ o. T (below_all row_cmp x (cons_option (with_row e.0 o) (each_row f es)))) [
        | None ↦ rest
        | Some b ↦ joined (is_lt (row_cmp x e.0)) (below_all row_cmp x (each_row f es)) parts.0 rest
      ]

  -- what is made of each row of a sorted list is sorted
  pub sorted_each : (es : List (Row × A)) → T (is_sorted row_cmp es) → T (is_sorted row_cmp (each_row f es))
  sorted_each [] h = tt
  sorted_each (e ∷ es) h =
      let parts = both (below_all row_cmp e.0 es) (is_sorted row_cmp es) h in
      let rest = sorted_each es parts.1 in
      elim (f e.0 e.1) as (λ o. T (is_sorted row_cmp (cons_option (with_row e.0 o) (each_row f es)))) [
        | None ↦ rest
        | Some b ↦ joined (below_all row_cmp e.0 (each_row f es)) (is_sorted row_cmp (each_row f es)) (below_each e.0 es parts.0) rest
      ]

  -- a row is found with what is made of what it was found with
  pub find_each : (q : Row) (es : List (Row × A)) → T (is_sorted row_cmp es) → find row_cmp q (each_row f es) ≡ option_and_then (f q) (find row_cmp q es)
  find_each q [] h = refl
  find_each q (e ∷ es) h =
      let parts = both (below_all row_cmp e.0 es) (is_sorted row_cmp es) h in
      let found = find row_cmp q (each_row f es) in
      let rest = find_each q es parts.1 in
      find_made q e.0 (each_row f es) (f e.0 e.1) ∙ (elim (row_eq q e.0) as (λ t. row_eq q e.0 ≡ t → cond t (option_or (f e.0 e.1) found) found ≡ option_and_then (f q) (cond t (Some e.1) (find row_cmp q es))) [
        | true ↦ λ t.
            let same : q ≡ e.0 = same_row q e.0 t in
            let none : find row_cmp q es ≡ None = find_below q es (subst (λ x. T (below_all row_cmp x es)) (sym same) parts.0) in
            ap (option_or (f e.0 e.1)) (rest ∙ ap (option_and_then (f q)) none) ∙ or_none (f e.0 e.1) ∙ ap (λ x. f x e.1) (sym same)
        | false ↦ λ t. rest
      ] refl)

-- new states as the code has them, made of each row
pub states_of_each : {A : Type 0} (f : Row → A → Option Written) (es : List (Row × A)) → new_states (each_row f es) ≡ each_row (λ row v. option_map state_value (f row v)) es
states_of_each f [] = refl
states_of_each {A} f (e ∷ es) = at (f e.0 e.1) (states_of_each f es)
  where
    at : (o : Option Written) → new_states (each_row f es) ≡ each_row (λ row v. option_map state_value (f row v)) es
        → new_states (cons_option (with_row e.0 o) (each_row f es)) ≡ cons_option (with_row e.0 (option_map state_value o)) (each_row (λ row v. option_map state_value (f row v)) es)
    at None rest = rest
    at (Some left) rest = ap (λ es'. (e.0, state_value left) ∷ es') rest

-- a state as histories have it is the state
stored_is : (o : Option State) → option_map state_value (option_map stored o) ≡ o
stored_is (Some None) = refl
stored_is other = refl

-- what is made of a value as histories have it
made_is : (f : ℤ → Option State) (o : State) → option_and_then (λ old. option_map state_value (option_map stored (f old))) o ≡ option_and_then f o
made_is f None = refl
made_is f (Some old) = stored_is (f old)

-- a statement that adds no row lists those that match
kind_lists_matched : (t : List ℕ) (s : StatementKind) → kind_inserted t s ≡ None → (row : Row) (state : State) → kind_listed t s row state ≡ kind_matched t s row state
kind_lists_matched t (Insert id new) none row state = absurd cc
kind_lists_matched t other none row state = refl

pub lists_matched : (s : Statement) → inserted s ≡ None → (row : Row) (state : State) → listed s row state ≡ matched s row state
lists_matched s = kind_lists_matched s.table s.kind

module _ (s : Statement) (es : List (Row × ℤ)) (items : List (Row × Written)) (made : items ≡ each_row (λ row value. value_rewritten s value) es) where
  -- new states as the code has them, by what is made of each row
  left_is : new_states items ≡ each_row (λ row value. option_map state_value (value_rewritten s value)) es
  left_is = ap new_states made ∙ states_of_each (λ row value. value_rewritten s value) es

  pub change_sorted : T (is_sorted row_cmp es) → T (is_sorted row_cmp (new_states items))
  change_sorted h = subst (λ k. T (is_sorted row_cmp k)) (sym left_is) (sorted_each (λ row value. option_map state_value (value_rewritten s value)) es h)

  -- a statement that neither only lists nor adds a row writes what it makes of the rows that match
  pub change_found : is_read_only s ≡ false → inserted s ≡ None → (sees : Row → Version) → AreMatching s sees es → ((q : Row) → fails s q (sees q).state ≡ false)
      → (q : Row) → find row_cmp q (new_states items) ≡ written s q (sees q).state
  change_found changes none sees are runs q =
      ap (find row_cmp q) left_is ∙ find_each (λ row value. option_map state_value (value_rewritten s value)) q es are.sorted
      ∙ ap (option_and_then (λ value. option_map state_value (value_rewritten s value))) (are.found q ∙ sym (lists_matched s none q (sees q).state))
      ∙ made_is (rewritten s) (listed s q (sees q).state)
      ∙ sym ((change_is s changes none).writes q (sees q).state (runs q))
