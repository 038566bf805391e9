-- The first of those of which something is so, and the least row: of either of two, of all members of a list, of rows that rise, and among the entries of a map.
use Rattle.std.proofs.{Common.{◌≡◌, ℤ, Bool, true, false, cond, T, Option, Some, None, List, [], ◌∷◌, ◌⊎◌, inl, inr, refl, sym, ap, ◌∙◌, subst}, lemmas.{Bool.{false≢true}, List.{Elements.{Contains-append_cases}}, Option.{none-some, same_Some}}}
use Rattle.std.specs.{Prelude.{Contains, ◌&&◌}, Bool.{then_some}, Ordering.{is_lt, is_le, ordering_reverse}, Cmp.{tied_itself}, List.{AllByRecursion, Sorted.{IsStrictlySortedBy}}}
use Rattle.std.specs.{FinMap.{FinMap, find, entries, entries_sorted, is_sorted, get-entries, Entries.{below_all}}, declared.cmp.Ordering.{Ordering, TheVariants.{Less, Equal, Greater}}}
use Rattle.lab_table.{specs.Row.{Row, row_cmp, row_eq, row_le, rows_total, rows_apart}, proofs.{Maps.{find_below, same_row, row_eq_self}, Members.{no_member, first_member, later_member, only_member}, Orderings.{is_less}, SortedRows.{lower}, Tests.{both}}}
use Rattle.lab_history.specs.{VersionName.{new_states}, declared.operation.State.{State}}
use Rattle.lab_deps.specs.FirstOf.{IsFirstOf, IsLess, IsLeastRow, HasPassing, first_value, first_entry, first_row, least, least_of}

-- the first of those of which something is so is the first of those of which something else is, where one can't be without the other
pub first_like : {A : Type 0} (before : A → A → Type 0) (P Q : A → Type 0) (o : Option A) → ((x : A) → P x → Q x) → ((x : A) → Q x → (P x → ⊥) → ⊥) → IsFirstOf before P o → IsFirstOf before Q o
first_like before P Q None to back none = λ x q. back x q (none x)
first_like before P Q (Some x) to back first = (to x first.0, λ y q l. back y q (λ p. first.1 y p l))

less_is : (r : Ordering) → is_lt r ≡ true → r ≡ Less
less_is r e = is_less r (subst T (sym e) tt)

-- no row is less than itself
pub not_itself : (row : Row) → IsLess row row → ⊥
not_itself row l = false≢true (sym (ap is_lt (tied_itself rows_total row)) ∙ l)

-- a row below one is below those that aren't less
pub below_greater : (row x y : Row) → IsLess row x → row_le x y ≡ true → IsLess row y
below_greater row x y l le = at (row_cmp x y) refl le
  where
    at : (r : Ordering) → row_cmp x y ≡ r → is_le r ≡ true → IsLess row y
    at Less e t = ap is_lt (rows_total.trans row x y (less_is (row_cmp row x) l) e)
    at Equal e t = subst (IsLess row) (rows_apart x y e) l
    at Greater e t = absurd (false≢true t)

pub below_lesser : (row x y : Row) → IsLess row y → row_le x y ≡ false → IsLess row x
below_lesser row x y l le = at (row_cmp x y) refl le
  where
    at : (r : Ordering) → row_cmp x y ≡ r → is_le r ≡ false → IsLess row x
    at Less e t = absurd (false≢true (sym t))
    at Equal e t = absurd (false≢true (sym t))
    at Greater e t = ap is_lt (rows_total.trans row y x (less_is (row_cmp row y) l) (rows_total.antisymm y x ∙ ap ordering_reverse e))

-- the lesser of two least rows is the least of either
pub either_least : (P Q : Row → Type 0) (a b : Option Row) → IsLeastRow P a → IsLeastRow Q b → IsLeastRow (λ row. P row ⊎ Q row) (least a b)
either_least P Q None None p q = λ row w. elim w [ inl u ↦ p row u | inr v ↦ q row v ]
either_least P Q None (Some y) p q = (inr q.0, λ row w l. elim w [ inl u ↦ p row u | inr v ↦ q.1 row v l ])
either_least P Q (Some x) None p q = (inl p.0, λ row w l. elim w [ inl u ↦ p.1 row u l | inr v ↦ q row v ])
either_least P Q (Some x) (Some y) p q =
    elim (row_le x y) as (λ t. row_le x y ≡ t → IsLeastRow (λ row. P row ⊎ Q row) (cond t (Some x) (Some y))) [
      | true ↦ λ e. (inl p.0, λ row w l. elim w [ inl u ↦ p.1 row u l | inr v ↦ q.1 row v (below_greater row x y l e) ])
      | false ↦ λ e. (inr q.0, λ row w l. elim w [ inl u ↦ p.1 row u (below_lesser row x y l e) | inr v ↦ q.1 row v l ])
    ] refl

-- and so of what is so of those of which one or the other is
pub least_where : (P Q R : Row → Type 0) (a b : Option Row) → ((row : Row) → P row ⊎ Q row → R row) → ((row : Row) → R row → (P row ⊎ Q row → ⊥) → ⊥) → IsLeastRow P a → IsLeastRow Q b → IsLeastRow R (least a b)
least_where P Q R a b to back p q = first_like IsLess (λ row. P row ⊎ Q row) R (least a b) to back (either_least P Q a b p q)

-- a row that passes a test is the least of what it alone can be
pub only_least : (test : Row → Bool) (row : Row) → IsLeastRow (λ other. (other ≡ row) × (test row ≡ true)) (then_some (test row) row)
only_least test row =
    elim (test row) as (λ b. test row ≡ b → IsLeastRow (λ other. (other ≡ row) × (test row ≡ true)) (then_some b row)) [
      | true ↦ λ t. ((refl, t), λ other w l. not_itself row (subst (λ r. IsLess r row) w.0 l))
      | false ↦ λ t. λ other w. false≢true (sym t ∙ w.1)
    ] refl

module _ {A : Type 0} (find_at : A → Option Row) (Holds : A → Row → Type 0) (each : (x : A) → IsLeastRow (Holds x) (find_at x)) where
  abbrev Among : (Row → Type 0) → List A → Row → Type 0
  Among P xs row = P row ⊎ ((x : A) × Contains xs x × Holds x row)

  forth : (P : Row → Type 0) (y : A) (xs : List A) (row : Row) → Among (λ r. P r ⊎ Holds y r) xs row → Among P (y ∷ xs) row
  forth P y xs row (inl (inl before)) = inl before
  forth P y xs row (inl (inr here)) = inr (y, first_member y xs, here)
  forth P y xs row (inr (x, there, holds)) = inr (x, later_member y xs x there, holds)

  back : (P : Row → Type 0) (y : A) (xs : List A) (row : Row) → Among P (y ∷ xs) row → Among (λ r. P r ⊎ Holds y r) xs row
  back P y xs row (inl before) = inl (inl before)
  back P y xs row (inr (x, there, holds)) =
      elim (Contains-append_cases (y ∷ []) xs x there) [
        | inl here ↦ inl (inr (subst (λ z. Holds z row) (sym (only_member y x here)) holds))
        | inr later ↦ inr (x, later, holds)
      ]

  least_on : (xs : List A) (row : Option Row) (P : Row → Type 0) → IsLeastRow P row → IsLeastRow (Among P xs) (least_of find_at row xs)
  least_on [] row P l =
      first_like IsLess P (Among P []) row (λ r holds. inl holds) (λ r w denied. elim w [ inl before ↦ denied before | inr (x, there, holds) ↦ no_member x there ]) l
  least_on (y ∷ xs) row P l =
      first_like IsLess (Among (λ r. P r ⊎ Holds y r) xs) (Among P (y ∷ xs)) (least_of find_at (least row (find_at y)) xs) (forth P y xs) (λ r w denied. denied (back P y xs r w))
      (least_on xs (least row (find_at y)) (λ r. P r ⊎ Holds y r) (either_least P (Holds y) row (find_at y) l (each y)))

  -- the least of the rows that are found at the members of a list
  pub least_of_all : (xs : List A) → IsLeastRow (λ row. (x : A) × Contains xs x × Holds x row) (least_of find_at None xs)
  least_of_all xs =
      first_like IsLess (Among (λ _. ⊥) xs) (λ row. (x : A) × Contains xs x × Holds x row) (least_of find_at None xs) (λ row w. elim w [ inl never ↦ absurd never | inr there ↦ there ])
      (λ row w denied. denied (inr w)) (least_on xs None (λ _. ⊥) (λ row never. never))

behind_all : (x : Row) (rows : List Row) → AllByRecursion (λ y. row_cmp x y ≡ Less) rows → (row : Row) → Contains rows row → row_cmp x row ≡ Less
behind_all x [] below row there = absurd (no_member row there)
behind_all x (y ∷ rows) below row there =
    elim (Contains-append_cases (y ∷ []) rows row there) [ inl here ↦ subst (λ r. row_cmp x r ≡ Less) (only_member y row here) below.0 | inr later ↦ behind_all x rows below.1 row later ]

-- the first of rising rows that passes a test is the least that does
pub row_least : (test : Row → Bool) (rows : List Row) → IsStrictlySortedBy row_cmp rows → IsLeastRow (λ row. Contains rows row × (test row ≡ true)) (first_row test rows)
unfolding IsStrictlySortedBy
row_least test [] sorted = λ row w. no_member row w.0
row_least test (x ∷ rows) sorted =
    elim (test x) as (λ b. test x ≡ b → IsLeastRow (λ row. Contains (x ∷ rows) row × (test row ≡ true)) (cond b (Some x) (first_row test rows))) [
      | true ↦ λ t. (
        (first_member x rows, t),
        λ row w l. elim (Contains-append_cases (x ∷ []) rows row w.0) [
          | inl here ↦ not_itself x (subst (λ r. IsLess r x) (sym (only_member x row here)) l)
          | inr later ↦ not_itself x (ap is_lt (rows_total.trans x row x (behind_all x rows sorted.0 row later) (less_is (row_cmp row x) l)))
        ],
      )
      | false ↦ λ off.
          first_like IsLess (λ row. Contains rows row × (test row ≡ true)) (λ row. Contains (x ∷ rows) row × (test row ≡ true)) (first_row test rows) (λ row w. (later_member x rows row w.0, w.1))
          (λ row w denied. elim (Contains-append_cases (x ∷ []) rows row w.0) [ inl here ↦ false≢true (sym off ∙ ap test (only_member x row here) ∙ w.1) | inr later ↦ denied (later, w.1) ])
          (row_least test rows sorted.1)
    ] refl

module _ {A : Type 0} where
  -- a row below the first of a sorted list isn't in it
  pub below_first : (row : Row) (x : Row × A) (es : List (Row × A)) → T (is_sorted row_cmp (x ∷ es)) → IsLess row x.0 → find row_cmp row (x ∷ es) ≡ None
  below_first row x es h l =
      let parts = both (below_all row_cmp x.0 es) (is_sorted row_cmp es) h in
      let less = less_is (row_cmp row x.0) l in
      find_below row (x ∷ es) (subst (λ r. T (is_lt r && below_all row_cmp row es)) (sym less) (lower row x.0 es less parts.0))

  -- behind an entry whose row stands below it a row is found as without it
  pub behind : (x : Row × A) (es : List (Row × A)) (row : Row) (v : A) → T (below_all row_cmp x.0 es) → find row_cmp row es ≡ Some v → find row_cmp row (x ∷ es) ≡ Some v
  behind x es row v below found =
      elim (row_eq row x.0) as (λ b. row_eq row x.0 ≡ b → cond b (Some x.1) (find row_cmp row es) ≡ Some v) [
        | true ↦ λ t. absurd (none-some v (sym (find_below row es (subst (λ r. T (below_all row_cmp r es)) (sym (same_row row x.0 t)) below)) ∙ found))
        | false ↦ λ _. found
      ] refl

  module _ (test : Row → A → Bool) where
    abbrev Passes : List (Row × A) → Row → Type 0
    Passes es row = (v : A) × (find row_cmp row es ≡ Some v) × (test row v ≡ true)

    without : (x : Row × A) (es : List (Row × A)) → test x.0 x.1 ≡ false → (row : Row) → Passes (x ∷ es) row → Passes es row
    without x es fails row (v, found, passes) =
        elim (row_eq row x.0) as (λ b. row_eq row x.0 ≡ b → cond b (Some x.1) (find row_cmp row es) ≡ Some v → Passes es row) [
          | true ↦ λ same is. absurd (false≢true (sym fails ∙ ap (test x.0) (same_Some x.1 v is) ∙ ap (λ r. test r v) (sym (same_row row x.0 same)) ∙ passes))
          | false ↦ λ _ later. (v, later, passes)
        ] refl found

    least_in : (es : List (Row × A)) → T (is_sorted row_cmp es) → IsLeastRow (Passes es) (first_value test es)
    least_in [] sorted = λ row w. none-some w.0 w.1
    least_in (x ∷ es) sorted =
        let parts = both (below_all row_cmp x.0 es) (is_sorted row_cmp es) sorted in
        elim (test x.0 x.1) as (λ b. test x.0 x.1 ≡ b → IsLeastRow (Passes (x ∷ es)) (cond b (Some x.0) (first_value test es))) [
          | true ↦ λ t. ((x.1, ap (λ b. cond b (Some x.1) (find row_cmp x.0 es)) (row_eq_self x.0), t), λ row w l. none-some w.0 (sym (below_first row x es sorted l) ∙ w.1))
          | false ↦ λ fails.
              first_like IsLess (Passes es) (Passes (x ∷ es)) (first_value test es) (λ row w. (w.0, behind x es row w.0 parts.0 w.1, w.2)) (λ row w denied. denied (without x es fails row w)) (least_in es parts.1)
        ] refl

    -- the first entry of a map that passes a test has the least such row
    pub value_least : (m : FinMap row_cmp A) → IsLeastRow (HasPassing test m) (first_value test (entries m))
    value_least m =
        first_like IsLess (Passes (entries m)) (HasPassing test m) (first_value test (entries m)) (λ row w. (w.0, get-entries m row ∙ w.1, w.2)) (λ row w denied. denied (w.0, sym (get-entries m row) ∙ w.1, w.2))
        (least_in (entries m) (entries_sorted m))

-- the rows that are written don't depend on how their states are stored
pub first_states : (test : Row → Bool) (es : List (Row × State)) (fs : List (Row × Option ℤ)) → new_states es ≡ fs → first_entry test es ≡ first_entry test fs
first_states test es fs e = same es ∙ ap (first_entry test) e
  where
    same : (es : List (Row × State)) → first_entry test es ≡ first_entry test (new_states es)
    same [] = refl
    same (e ∷ es) = ap (cond (test e.0) (Some e.0)) (same es)
