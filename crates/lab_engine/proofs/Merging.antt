-- Sorted lists of rows with their versions, two of which are merged: those of a setup, and others over them.
use Rattle.lab_engine.proofs.{Common.{ap, append_assoc, below_all, both, by_order, comes_after, cond, drop, each_row, entries, entries_sorted, Equal, false, find, find-map, find-put, find_below, get, get-entries, Greater, initial_entry, initially, is_gt, is_less, is_lt, is_sorted, is_sorted-put, laid_over, Less, List, lower, map, merged, None, one-add, Option, option_and_then, option_map, option_or, Ordering, prefix_len, put, refl, Row, row_cmp, row_eq, rows_apart, rows_total, same_row, Some, sorted-map, State, subst, sym, T, Table, take, true, turned, turned_back, unwrap_or, Version, without_row, [], ℕ, ℤ, ◌++◌, ◌+◌, ◌∙◌, ◌∷◌, ◌≡◌, ⊤}, Effects.{sorted_each, find_each}}
use Rattle.lab_table.proofs.Putting.{is_own}

-- rows with their versions
abbrev pub Entries : Type 0
Entries = List (Row × Version)

-- a version before those that come after the row, in the place of the row's own if it is there
split : (row : Row) (v : Version) (es : Entries) → take (prefix_len (comes_after row) es) es ++ (row, v) ∷ without_row row (drop (prefix_len (comes_after row) es) es) ≡ put row_cmp row v es
split row v [] = refl
split row v (e ∷ es) = at (split row v es) (row_cmp row e.0) refl
  where
    at : take (prefix_len (comes_after row) es) es ++ (row, v) ∷ without_row row (drop (prefix_len (comes_after row) es) es) ≡ put row_cmp row v es
        → (r : Ordering) → row_cmp row e.0 ≡ r
        → take (cond (is_gt r) (1 + prefix_len (comes_after row) es) 0) (e ∷ es) ++ (row, v) ∷ without_row row (drop (cond (is_gt r) (1 + prefix_len (comes_after row) es) 0) (e ∷ es))
        ≡ by_order r ((row, v) ∷ e ∷ es) ((e.0, v) ∷ es) (e ∷ put row_cmp row v es)
    at rest Less q = ap (λ b. (row, v) ∷ cond b es (e ∷ es)) (is_own row e.0 Less q)
    at rest Equal q = ap (λ b. (row, v) ∷ cond b es (e ∷ es)) (is_own row e.0 Equal q) ∙ ap (λ k. (k, v) ∷ es) (rows_apart row e.0 q)
    at rest Greater q =
        ap (λ n. take n (e ∷ es) ++ (row, v) ∷ without_row row (drop n (e ∷ es))) (one-add (prefix_len (comes_after row) es)) ∙ ap (λ l. e ∷ l) rest

-- each entry of a list put into another
abbrev put_each : Entries → Entries → Entries
put_each es [] = es
put_each es (e ∷ over) = put_each (put row_cmp e.0 e.1 es) over

-- each entry of a list stands before all of another
abbrev AllBelow : Entries → Entries → Type 0
AllBelow [] over = ⊤
AllBelow (x ∷ xs) over = T (below_all row_cmp x.0 over) × AllBelow xs over

-- an entry before all that are put stays in front
past_one : (x : Row × Version) (es over : Entries) → T (below_all row_cmp x.0 over) → x ∷ put_each es over ≡ put_each (x ∷ es) over
past_one x es [] h = refl
past_one x es (e ∷ over) h =
    let parts = both (is_lt (row_cmp x.0 e.0)) (below_all row_cmp x.0 over) h in
    past_one x (put row_cmp e.0 e.1 es) over parts.1
    ∙ ap (λ r. put_each (by_order r ((e.0, e.1) ∷ x ∷ es) ((x.0, e.1) ∷ es) (x ∷ put row_cmp e.0 e.1 es)) over) (sym (turned_back x.0 e.0 (is_less _ parts.0)))

-- so do all that stand before
past : (xs es over : Entries) → AllBelow xs over → xs ++ put_each es over ≡ put_each (xs ++ es) over
past [] es over h = refl
past (x ∷ xs) es over h = ap (λ l. x ∷ l) (past xs es over h.1) ∙ past_one x (xs ++ es) over h.0

-- what a row comes after stands before what the row stands before
front_below : (row : Row) (es over : Entries) → T (below_all row_cmp row over) → AllBelow (take (prefix_len (comes_after row) es) es) over
front_below row [] over h = tt
front_below row (e ∷ es) over h = at (front_below row es over h) (row_cmp row e.0) refl
  where
    at : AllBelow (take (prefix_len (comes_after row) es) es) over → (r : Ordering) → row_cmp row e.0 ≡ r → AllBelow (take (cond (is_gt r) (1 + prefix_len (comes_after row) es) 0) (e ∷ es)) over
    at rest Less q = tt
    at rest Equal q = tt
    at rest Greater q = subst (λ n. AllBelow (take n (e ∷ es)) over) (sym (one-add (prefix_len (comes_after row) es))) (lower e.0 row over (turned row e.0 q) h, rest)

-- to merge is to put each entry
merged_put : (under over : Entries) → T (is_sorted row_cmp over) → merged under over ≡ put_each under over
merged_put under [] h = refl
merged_put under (e ∷ over) h =
    let parts = both (below_all row_cmp e.0 over) (is_sorted row_cmp over) h in
    let front = take (prefix_len (comes_after e.0) under) under in
    let left = without_row e.0 (drop (prefix_len (comes_after e.0) under) under) in
    ap (λ l. front ++ e ∷ l) (merged_put left over parts.1)
    ∙ ap (λ l. front ++ l) (past_one e left over parts.0)
    ∙ past front (e ∷ left) over (front_below e.0 under over parts.0)
    ∙ ap (λ l. put_each l over) (split e.0 e.1 under)

each_sorted : (es over : Entries) → T (is_sorted row_cmp es) → T (is_sorted row_cmp (put_each es over))
each_sorted es [] h = h
each_sorted es (e ∷ over) h = each_sorted (put row_cmp e.0 e.1 es) over (is_sorted-put row_cmp rows_total e.0 e.1 es h)

-- the entry before all others counts as one of them
first_stays : (row : Row) (e : Row × Version) (over : Entries) (old : Option Version) → T (below_all row_cmp e.0 over)
    → option_or (find row_cmp row over) (cond (row_eq row e.0) (Some e.1) old) ≡ option_or (find row_cmp row (e ∷ over)) old
first_stays row e over old below =
    elim (row_eq row e.0) as (λ b. row_eq row e.0 ≡ b → option_or (find row_cmp row over) (cond b (Some e.1) old) ≡ option_or (cond b (Some e.1) (find row_cmp row over)) old) [
      | true ↦ λ t. ap (λ o. option_or o (Some e.1)) (find_below row over (subst (λ x. T (below_all row_cmp x over)) (sym (same_row row e.0 t)) below))
      | false ↦ λ t. refl
    ] refl

each_found : (row : Row) (es over : Entries) → T (is_sorted row_cmp over) → find row_cmp row (put_each es over) ≡ option_or (find row_cmp row over) (find row_cmp row es)
each_found row es [] h = refl
each_found row es (e ∷ over) h =
    let parts = both (below_all row_cmp e.0 over) (is_sorted row_cmp over) h in
    each_found row (put row_cmp e.0 e.1 es) over parts.1
    ∙ ap (option_or (find row_cmp row over)) (find-put row_cmp rows_total row e.0 e.1 es)
    ∙ first_stays row e over (find row_cmp row es) parts.0

-- sorted lists merged are in order
pub merged_sorted : (under over : Entries) → T (is_sorted row_cmp under) → T (is_sorted row_cmp over) → T (is_sorted row_cmp (merged under over))
merged_sorted under over below above = subst (λ l. T (is_sorted row_cmp l)) (sym (merged_put under over above)) (each_sorted under over below)

-- a row is found as the second has it, else as the first has it
pub merged_found : (row : Row) (under over : Entries) → T (is_sorted row_cmp over) → find row_cmp row (merged under over) ≡ option_or (find row_cmp row over) (find row_cmp row under)
merged_found row under over above = ap (find row_cmp row) (merged_put under over above) ∙ each_found row under over above

-- ---- a setup's versions, and others over them

-- a state in the end is that of the version over the setup's, if there is one, and so is what is made of it
pub state_over : {B : Type 0} (f : State → Option B) → f None ≡ None → (over : Option Version) (state : State)
    → option_and_then (λ (v : Version). f v.state) (option_or over (option_map (λ value. initially (Some value)) state)) ≡ f (unwrap_or over (initially state)).state
state_over f none (Some v) state = refl
state_over f none None None = sym none
state_over f none None (Some value) = refl

module _ (setup : Table) (over : Entries) (rising : T (is_sorted row_cmp over)) where
  abbrev laid : Entries
  laid = laid_over (entries setup) over

  laid_sorted : T (is_sorted row_cmp laid)
  laid_sorted = merged_sorted (map initial_entry (entries setup)) over (sorted-map (λ (e : Row × ℤ). initially (Some e.1)) (entries setup) (entries_sorted setup)) rising

  laid_found : (row : Row) → find row_cmp row laid ≡ option_or (find row_cmp row over) (option_map (λ value. initially (Some value)) (get setup row))
  laid_found row =
      merged_found row (map initial_entry (entries setup)) over rising
      ∙ ap (option_or (find row_cmp row over)) (find-map (λ (value : ℤ). initially (Some value)) row (entries setup) ∙ ap (option_map (λ value. initially (Some value))) (sym (get-entries setup row)))

  -- what is made of the states of all, row by row
  module _ {B : Type 0} (f : Row → State → Option B) (none : (row : Row) → f row None ≡ None) (made : List (Row × B)) (is : made ≡ each_row (λ row (v : Version). f row v.state) laid) where
    pub over_sorted : T (is_sorted row_cmp made)
    over_sorted = subst (λ l. T (is_sorted row_cmp l)) (sym is) (sorted_each (λ row (v : Version). f row v.state) laid laid_sorted)

    pub over_found : (row : Row) → find row_cmp row made ≡ f row (unwrap_or (find row_cmp row over) (initially (get setup row))).state
    over_found row =
        ap (find row_cmp row) is ∙ find_each (λ row (v : Version). f row v.state) row laid laid_sorted ∙ ap (option_and_then (λ (v : Version). f row v.state)) (laid_found row)
        ∙ state_over (f row) (none row) (find row_cmp row over) (get setup row)

-- one more entry merged
pub merge_step : (made news left rest over whole : Entries) (e : Row × Version) (n : ℕ) → made ++ merged left (e ∷ over) ≡ whole → n ≡ prefix_len (comes_after e.0) left
    → news ≡ (made ++ take n left) ++ e ∷ [] → rest ≡ without_row e.0 (drop n left) → news ++ merged rest over ≡ whole
merge_step made news left rest over whole e n before place new is =
    ap (λ l. l ++ merged rest over) new
    ∙ append_assoc (made ++ take n left) (e ∷ []) (merged rest over)
    ∙ append_assoc made (take n left) (e ∷ merged rest over)
    ∙ ap (λ l. made ++ (take n left ++ e ∷ merged l over)) is
    ∙ ap (λ k. made ++ (take k left ++ e ∷ merged (without_row e.0 (drop k left)) over)) place
    ∙ before
