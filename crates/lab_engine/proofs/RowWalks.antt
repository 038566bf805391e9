-- What is kept of rows, where lists of rows and of writes are walked through.
use Rattle.lab_engine.{proofs.Common.{and_comm, Any-from_list_any, ap, below_all, Bool, both, cond, entries, entries_sorted, false, filter, find, find_below, get, get-entries, get_or, is_some, is_sorted, IsSome, length, List, list_any, list_any-append, list_any_at, longer, map, new_states, None, Option, option_or, refl, Row, row_cmp, row_eq, row_eq_self, same_row, Some, state_value, subst, sym, T, true, Version, VersionName, Writes, Written, written_version, ℕ, [], ◌&&◌, ◌++◌, ◌<◌, ◌==◌, ◌||◌, ◌∙◌, ◌∷◌, ◌≡◌, any-filter_same}, specs.declared.row_state.Installed.{Installed}}

-- ---- rows, one by one

-- what is let go of one row and then of others is let go of all
pub let_go : (own rest s : Bool) (v : Option Version) → cond (rest && s) None (cond (own && s) None v) ≡ cond ((own || rest) && s) None v
let_go true true true v = refl
let_go own rest s v = refl

-- what is installed of one row and then of others is installed once of each
pub installed_once : (by place : ℕ) (own rest s : Bool) (v now : Option Version) (c new : List Installed) → s ≡ true → new ≡ cond own (longer by place v c) c → now ≡ cond (own && s) None v
    → cond rest (longer by place now new) new ≡ cond (own || rest) (longer by place v c) c
installed_once by place true true s v now c new is chain pending = ap (λ o. longer by place o new) (pending ∙ ap (λ b. cond b None v) is) ∙ chain
installed_once by place false true s v now c new is chain pending = ap (λ o. longer by place o new) pending ∙ ap (longer by place v) chain
installed_once by place own rest s v now c new is chain pending = chain

-- ---- writes, one by one

-- what a session has pending of a row after writes of this name
abbrev pub held : VersionName → ℕ → Row → ℕ → List (Row × Written) → Option Version → Option Version
held name session row n [] v = v
held name session row n (e ∷ es) v = held name session row n es (cond (row_eq row e.0 && n == session) (Some (record { name = name; state = state_value e.1 })) v)

module _ (name : VersionName) (session : ℕ) (row : Row) (n : ℕ) where
  -- writes of other rows leave it
  held_none : (es : List (Row × Written)) (v : Option Version) → find row_cmp row (new_states es) ≡ None → held name session row n es v ≡ v
  held_none [] v h = refl
  held_none (e ∷ es) v h =
      elim (row_eq row e.0) as (λ b. cond b (Some (state_value e.1)) (find row_cmp row (new_states es)) ≡ None
      → held name session row n es (cond (b && n == session) (Some (record { name = name; state = state_value e.1 })) v) ≡ v) [
        | true ↦ λ none. absurd cc
        | false ↦ λ none. held_none es v none
      ] h

  -- the row's own write is pending
  held_all : (es : List (Row × Written)) (v : Option Version) → T (is_sorted row_cmp (new_states es))
      → held name session row n es v ≡ cond (n == session) (option_or (written_version name (find row_cmp row (new_states es))) v) v
  held_all [] v h = elim (n == session) as (λ b. v ≡ cond b v v) [ true ↦ refl | false ↦ refl ]
  held_all (e ∷ es) v h =
      let parts = both (below_all row_cmp e.0 (new_states es)) (is_sorted row_cmp (new_states es)) h in
      let now : Version = record { name = name; state = state_value e.1 } in
      elim (row_eq row e.0) as (λ b. row_eq row e.0 ≡ b → held name session row n es (cond (b && n == session) (Some now) v)
      ≡ cond (n == session) (option_or (written_version name (cond b (Some (state_value e.1)) (find row_cmp row (new_states es)))) v) v) [
        | true ↦ λ is. held_none es (cond (n == session) (Some now) v)
            (find_below row (new_states es) (subst (λ x. T (below_all row_cmp x (new_states es))) (sym (same_row row e.0 is)) parts.0))
        | false ↦ λ is. held_all es v parts.1
      ] refl

  -- the same by the writes as a map
  pub held_map : (all : Writes) (es : List (Row × Written)) (v : Option Version) → new_states es ≡ entries all
      → held name session row n es v ≡ cond (n == session) (option_or (written_version name (get all row)) v) v
  held_map all es v is =
      held_all es v (subst (λ l. T (is_sorted row_cmp l)) (sym is) (entries_sorted all))
      ∙ ap (λ o. cond (n == session) (option_or (written_version name o) v) v) (ap (find row_cmp row) is ∙ sym (get-entries all row))

-- ---- the rows of writes

-- a row is written where an entry has it
among_writes : (all : Writes) (es : List (Row × Written)) → new_states es ≡ entries all → (row : Row) → list_any (λ e. row_eq row e.0) es ≡ is_some (get all row)
among_writes all es is row = at es ∙ ap (λ o. is_some o) (ap (find row_cmp row) is ∙ sym (get-entries all row))
  where
    at : (es : List (Row × Written)) → list_any (λ e. row_eq row e.0) es ≡ is_some (find row_cmp row (new_states es))
    at [] = refl
    at (e ∷ es) =
        elim (row_eq row e.0) as (λ b. (b || list_any (λ (e : Row × Written). row_eq row e.0) es) ≡ is_some (cond b (Some (state_value e.1)) (find row_cmp row (new_states es)))) [
          | true ↦ refl
          | false ↦ at es
        ]

-- the row of an entry is written
pub written_at : (all : Writes) (es : List (Row × Written)) → new_states es ≡ entries all → (k : ℕ) (d : Row × Written) → k < length es → IsSome (get all (get_or es k d).0)
written_at all es is k d lt =
    let row : Row = (get_or es k d).0 in
    sym (among_writes all es is row) ∙ list_any_at (λ e. row_eq row e.0) es k d lt (row_eq_self row)

-- a row that is written stands in an entry
pub entry_of : (all : Writes) (es : List (Row × Written)) → new_states es ≡ entries all → (row : Row) → IsSome (get all row)
    → (k : ℕ) × (d : Row × Written) × (k < length es) × ((get_or es k d).0 ≡ row)
entry_of all es is row some =
    let f = Any-from_list_any (λ (e : Row × Written). row_eq row e.0) es (among_writes all es is row ∙ some) in
    (f.0, f.1, f.2, ap (λ (e : Row × Written). e.0) f.3 ∙ sym (same_row row f.1.0 f.4))

any_mapped : {A B : Type 0} (p : B → Bool) (f : A → B) (xs : List A) → list_any p (map f xs) ≡ list_any (λ x. p (f x)) xs
any_mapped p f [] = refl
any_mapped p f (x ∷ xs) = ap (λ b. p (f x) || b) (any_mapped p f xs)

-- those of which something holds, put behind a list
pub noted : (row : Row) (before : List Row) (all : Writes) (es : List (Row × Written)) (holds : Row → Bool) → new_states es ≡ entries all
    → list_any (row_eq row) (before ++ filter holds (map (λ (e : Row × Written). e.0) es)) ≡ (list_any (row_eq row) before || (is_some (get all row) && holds row))
noted row before all es holds is =
    let rows : List Row = map (λ (e : Row × Written). e.0) es in
    list_any-append (row_eq row) before (filter holds rows)
    ∙ ap (λ b. list_any (row_eq row) before || b) (any-filter_same (row_eq row) holds (holds row) (λ k same. ap holds (sym (same_row row k same))) rows
    ∙ and_comm (holds row) (list_any (row_eq row) rows)
    ∙ ap (λ b. b && holds row) (any_mapped (row_eq row) (λ (e : Row × Written). e.0) es ∙ among_writes all es is row))
