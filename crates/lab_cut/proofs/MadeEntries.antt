-- Entries that are made of sorted ones, and those that a mask leaves of them.
use Rattle.std.proofs.{Common.{◌≡◌, Bool, true, false, cond, T, List, [], ◌∷◌, Option, Some, None, refl, sym, ap, ◌∙◌, subst}, lemmas.Option.{none-some}}
use Rattle.std.specs.{Prelude.{option_and_then, drop}, Ordering.{is_lt}, FinMap.{FinMap, find, is_sorted, entries, entries_sorted, Entries.{below_all, where_key, is_sorted-where_key}}}
use Rattle.lab_table.{specs.Row.{Row, row_cmp, row_eq}, proofs.{Maps.{same_row, find_below}, Tests.{both, joined}}}
use Rattle.lab_cut.specs.{Left.{next_kept, left_of}, MadeEntries.{with_value, made_entries}}

module _ {U V : Type 0} (make : Row → U → Option V) where
  below_made : (x : Row) (es : List (Row × U)) → T (below_all row_cmp x es) → T (below_all row_cmp x (made_entries make es))
  below_made x [] h = tt
  below_made x (e ∷ es) h =
      let parts = both (is_lt (row_cmp x e.0)) (below_all row_cmp x es) h in
      let rest = below_made x es parts.1 in
      elim (make e.0 e.1) as (λ o. T (below_all row_cmp x (with_value e.0 o (made_entries make es)))) [
        | None ↦ rest
        | Some v ↦ joined _ _ parts.0 rest
      ]

  -- they are sorted as well
  pub made_sorted : (es : List (Row × U)) → T (is_sorted row_cmp es) → T (is_sorted row_cmp (made_entries make es))
  made_sorted [] h = tt
  made_sorted (e ∷ es) h =
      let parts = both (below_all row_cmp e.0 es) (is_sorted row_cmp es) h in
      let rest = made_sorted es parts.1 in
      elim (make e.0 e.1) as (λ o. T (is_sorted row_cmp (with_value e.0 o (made_entries make es)))) [
        | None ↦ rest
        | Some v ↦ joined _ _ (below_made e.0 es parts.0) rest
      ]

  -- a row is found with what is made of its own value
  pub find_made : (q : Row) (es : List (Row × U)) → T (is_sorted row_cmp es) → find row_cmp q (made_entries make es) ≡ option_and_then (make q) (find row_cmp q es)
  find_made q [] h = refl
  find_made q (e ∷ es) h =
      let parts = both (below_all row_cmp e.0 es) (is_sorted row_cmp es) h in
      let rest = find_made q es parts.1 in
      elim (row_eq q e.0) as (λ t. row_eq q e.0 ≡ t → find row_cmp q (with_value e.0 (make e.0 e.1) (made_entries make es)) ≡ option_and_then (make q) (cond t (Some e.1) (find row_cmp q es))) [
        | true ↦ λ t.
            let same : q ≡ e.0 = same_row q e.0 t in
            let none : find row_cmp q es ≡ None = find_below q es (subst (λ x. T (below_all row_cmp x es)) (sym same) parts.0) in
            elim (make e.0 e.1) as (λ o. make e.0 e.1 ≡ o → find row_cmp q (with_value e.0 o (made_entries make es)) ≡ make q e.1) [
              | None ↦ λ w. rest ∙ ap (option_and_then (make q)) none ∙ sym (ap (λ x. make x e.1) same ∙ w)
              | Some v ↦ λ w. ap (λ b. cond b (Some v) (find row_cmp q (made_entries make es))) t ∙ sym (ap (λ x. make x e.1) same ∙ w)
            ] refl
        | false ↦ λ t. elim (make e.0 e.1) as (λ o. find row_cmp q (with_value e.0 o (made_entries make es)) ≡ option_and_then (make q) (find row_cmp q es)) [
          | None ↦ rest
          | Some v ↦ ap (λ b. cond b (Some v) (find row_cmp q (made_entries make es))) t ∙ rest
        ]
      ] refl

module _ {V : Type 0} where
  below_left : (x : Row) (mask : List Bool) (es : List (Row × V)) → T (below_all row_cmp x es) → T (below_all row_cmp x (left_of mask es))
  below_left x mask [] h = tt
  below_left x mask (e ∷ es) h =
      let parts = both (is_lt (row_cmp x e.0)) (below_all row_cmp x es) h in
      let rest = below_left x (drop 1 mask) es parts.1 in
      elim (next_kept mask) as (λ b. T (below_all row_cmp x (cond b (e ∷ left_of (drop 1 mask) es) (left_of (drop 1 mask) es)))) [
        | true ↦ joined _ _ parts.0 rest
        | false ↦ rest
      ]

  -- those that are left are sorted
  pub left_sorted : (mask : List Bool) (es : List (Row × V)) → T (is_sorted row_cmp es) → T (is_sorted row_cmp (left_of mask es))
  left_sorted mask [] h = tt
  left_sorted mask (e ∷ es) h =
      let parts = both (below_all row_cmp e.0 es) (is_sorted row_cmp es) h in
      let rest = left_sorted (drop 1 mask) es parts.1 in
      elim (next_kept mask) as (λ b. T (is_sorted row_cmp (cond b (e ∷ left_of (drop 1 mask) es) (left_of (drop 1 mask) es)))) [
        | true ↦ joined _ _ (below_left e.0 (drop 1 mask) es parts.0) rest
        | false ↦ rest
      ]

  -- what is found among those that are left was found
  pub find_left : (q : Row) (v : V) (mask : List Bool) (es : List (Row × V)) → T (is_sorted row_cmp es) → find row_cmp q (left_of mask es) ≡ Some v → find row_cmp q es ≡ Some v
  find_left q v mask [] h = λ e. e
  find_left q v mask (e ∷ es) h =
      let parts = both (below_all row_cmp e.0 es) (is_sorted row_cmp es) h in
      let rest : find row_cmp q (left_of (drop 1 mask) es) ≡ Some v → find row_cmp q es ≡ Some v = find_left q v (drop 1 mask) es parts.1 in
      elim (next_kept mask) as (λ b. find row_cmp q (cond b (e ∷ left_of (drop 1 mask) es) (left_of (drop 1 mask) es)) ≡ Some v → cond (row_eq q e.0) (Some e.1) (find row_cmp q es) ≡ Some v) [
        | true ↦ elim (row_eq q e.0) as (λ t. cond t (Some e.1) (find row_cmp q (left_of (drop 1 mask) es)) ≡ Some v → cond t (Some e.1) (find row_cmp q es) ≡ Some v) [
          | true ↦ λ f. f
          | false ↦ rest
        ]
        | false ↦ λ f. elim (row_eq q e.0) as (λ t. row_eq q e.0 ≡ t → cond t (Some e.1) (find row_cmp q es) ≡ Some v) [
          | true ↦ λ t.
              let same : q ≡ e.0 = same_row q e.0 t in
              let none : find row_cmp q es ≡ None = find_below q es (subst (λ x. T (below_all row_cmp x es)) (sym same) parts.0) in
              absurd (none-some v (sym none ∙ rest f))
          | false ↦ λ t. rest f
        ] refl
      ]

-- a list of entries that are made of a map's is sorted
pub sorted_of : {U V : Type 0} (make : Row → U → Option V) (m : FinMap row_cmp U) (es : List (Row × U)) (made : List (Row × V)) → es ≡ entries m → made ≡ made_entries make es → T (is_sorted row_cmp made)
sorted_of make m es made is of = subst (λ l. T (is_sorted row_cmp l)) (sym (of ∙ ap (made_entries make) is)) (made_sorted make (entries m) (entries_sorted m))

-- and so of those that a mask leaves
pub sorted_left : {V : Type 0} (mask : List Bool) (m : FinMap row_cmp V) (es left : List (Row × V)) → es ≡ entries m → left ≡ left_of mask es → T (is_sorted row_cmp left)
sorted_left mask m es left is of = subst (λ l. T (is_sorted row_cmp l)) (sym (of ∙ ap (left_of mask) is)) (left_sorted mask (entries m) (entries_sorted m))

-- and of those whose rows pass a test
pub sorted_where : {V : Type 0} (test : Row → Bool) (m : FinMap row_cmp V) (es left : List (Row × V)) → es ≡ entries m → left ≡ where_key row_cmp test es → T (is_sorted row_cmp left)
sorted_where test m es left is of = subst (λ l. T (is_sorted row_cmp l)) (sym (of ∙ ap (where_key row_cmp test) is)) (is_sorted-where_key row_cmp test (entries m) (entries_sorted m))
