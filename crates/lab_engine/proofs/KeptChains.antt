-- What is made of what is kept of rows, by rising row.
use Rattle.lab_engine.{proofs.{Common.{AllByRecursion, ap, below_all, chain_in, chain_kept, cond, each_row, entries_in, find, is_eq, is_lt, is_sorted, joined, Kept, kept_at, last_before, Less, List, None, Option, option_and_then, option_or, pending_kept, refl, Row, row_cmp, RowStates, seen_of, Some, subst, sym, T, Version, ℕ, [], ◌∙◌, ◌∷◌, ◌≡◌, is_at, keys_of, lookup}, Effects.{find_each, sorted_each}}, specs.declared.row_state.Installed.{Installed}}
use Rattle.std.specs.List.Sorted.{IsStrictlySortedBy}

module _ {A : Type 0} where
  below_kept : (row : Row) (es : List (Row × A)) → AllByRecursion (λ y. row_cmp row y ≡ Less) (keys_of es) → T (below_all row_cmp row es)
  below_kept row [] h = tt
  below_kept row (e ∷ es) h = joined (is_lt (row_cmp row e.0)) (below_all row_cmp row es) (subst (λ r. T (is_lt r)) (sym h.0) tt) (below_kept row es h.1)

  -- entries in order of their keys are sorted
  pub sorted_kept : (es : List (Row × A)) → IsStrictlySortedBy row_cmp (keys_of es) → T (is_sorted row_cmp es)
  unfolding IsStrictlySortedBy
  sorted_kept [] h = tt
  sorted_kept (e ∷ es) h = joined (below_all row_cmp e.0 es) (is_sorted row_cmp es) (below_kept e.0 es h.0) (sorted_kept es h.1)

  -- a row is found among them as the map finds it
  pub find_kept : (row : Row) (es : List (Row × A)) → find row_cmp row es ≡ lookup (is_at (row_cmp row)) es
  find_kept row [] = refl
  find_kept row (e ∷ es) = ap (cond (is_eq (row_cmp row e.0)) (Some e.1)) (find_kept row es)

  module _ {B : Type 0} (f : Row → A → Option B) (es : List (Row × A)) (ordered : IsStrictlySortedBy row_cmp (keys_of es)) where
    -- what is made of each row is in order
    pub each_kept : T (is_sorted row_cmp (each_row f es))
    each_kept = sorted_each f es (sorted_kept es ordered)

    -- and is made of what the row has
    pub each_found : (row : Row) → find row_cmp row (each_row f es) ≡ option_and_then (f row) (lookup (is_at (row_cmp row)) es)
    each_found row = find_each f row es (sorted_kept es ordered) ∙ ap (option_and_then (f row)) (find_kept row es)

-- what is made of what a session sees of a row, by what is kept of it
pub seen_kept : {B : Type 0} (f : Option Version → Option B) → f None ≡ None → (session place : ℕ) (o : Option Kept) → option_and_then (λ kept. f (seen_of session place kept)) o
    ≡ f (option_or (pending_kept o session) (last_before place (chain_kept o)))
seen_kept f none session place None = sym none
seen_kept f none session place (Some kept) = refl

-- so by its chain alone
chain_made : {B : Type 0} (f : List Installed → Option B) → f [] ≡ None → (o : Option Kept) → option_and_then (λ (kept : Kept). f kept.chain) o ≡ f (chain_kept o)
chain_made f none None = sym none
chain_made f none (Some kept) = refl

-- what is made of each row's chain, row by row
module _ {B : Type 0} (f : List Installed → Option B) (none : f [] ≡ None) (rows : RowStates) (kept : List (Row × Kept)) (written : kept ≡ entries_in rows)
    (ordered : IsStrictlySortedBy row_cmp (keys_of kept)) (items : List (Row × B)) (made : items ≡ each_row (λ row (k : Kept). f k.chain) kept) where
  pub chains_sorted : T (is_sorted row_cmp items)
  chains_sorted = subst (λ l. T (is_sorted row_cmp l)) (sym made) (each_kept (λ row (k : Kept). f k.chain) kept ordered)

  pub chains_found : (row : Row) → find row_cmp row items ≡ f (chain_in rows row)
  chains_found row =
      ap (find row_cmp row) made ∙ each_found (λ row (k : Kept). f k.chain) kept ordered row
      ∙ ap (λ es. option_and_then (λ (k : Kept). f k.chain) (lookup (is_at (row_cmp row)) es)) written ∙ chain_made f none (kept_at rows row)
