-- Places of a list whose rows rise, outside which an operation has to look at no row.
use Rattle.std.proofs.Common.{◌≡◌, ◌≤◌, ◌<◌, ◌+◌, ◌-◌, ℕ, zero, suc, Bool, true, false, ◌||◌, cond, T, Some, None, List, [], ◌∷◌, ◌++◌, length, map, take, drop, refl, sym, ap, ◌∙◌, subst, arith}
use Rattle.std.specs.{Prelude.{Contains, slice_get, slice_index_or, filter, is_some}, List.{flat_map, prefix_len}, FinMap.{find, is_sorted, get-entries, Entries.{below_all}}, Ordering.{is_eq, is_gt, is_lt}, declared.cmp.Ordering.{Ordering, TheVariants.{Less, Equal, Greater}}}
use Rattle.std.specs.FinMap as finite
use Rattle.std.proofs.lemmas.{Bool.{false≢true}, List.{drop-map, take-map, take-append-drop, Elements.{Contains-append_left, Contains-append_right}, Folds.{flat_map-map}, Sums.{prefix_len_passes, prefix_len_stops}}, Option.{none-some, same_Some}}
use Rattle.lab_table.specs.{Row.{Row, row_cmp}, Running.{comes_after}, Statement.{may_match}}
use Rattle.lab_table.proofs.{Maps.{same_row}, Orderings.{after_below, is_greater, turned, turned_back}, SortedRows.{below_at}, Tests.{both}}
use Rattle.lab_history.specs.{History.{History}, declared.operation.Op.{Op}}
use Rattle.lab_deps.{specs.{Collected.{reading_of}, EdgesByRow.{looks_at, walked_in, with_versions, rows_of, found_at_row, found_by}}, proofs.{Beyond.{beyond}, FirstOf.{below_first}, Spans.{left_between}}}

-- rows that rise are less one by one
rising : {V : Type 0} (es : List (Row × V)) → T (is_sorted row_cmp es) → (i j : ℕ) (a b : Row × V) → i < j → j < length es → row_cmp (slice_index_or es i a).0 (slice_index_or es j b).0 ≡ Less
rising [] sorted i j a b low below = absurd (omega (arith, below))
rising (e ∷ es) sorted zero zero a b low below = absurd (omega (arith, low))
rising (e ∷ es) sorted zero (suc j) a b low below = below_at e.0 es j b (both (below_all row_cmp e.0 es) (is_sorted row_cmp es) sorted).0 (omega (arith, below))
rising (e ∷ es) sorted (suc i) zero a b low below = absurd (omega (arith, low))
rising (e ∷ es) sorted (suc i) (suc j) a b low below = rising es (both (below_all row_cmp e.0 es) (is_sorted row_cmp es) sorted).1 i j a b (omega (arith, low)) (omega (arith, below))

-- a row behind one that isn't below another comes after that
after_least : (a b last : Row) → row_cmp a b ≡ Less → is_gt (row_cmp last a) ≡ false → is_gt (row_cmp b last) ≡ true
after_least a b last less least = at (row_cmp b last) refl
  where
    at : (r : Ordering) → row_cmp b last ≡ r → is_gt r ≡ true
    at Less is = absurd (false≢true (sym least ∙ after_below last a b less (ap is_gt (turned_back b last is))))
    at Equal is = absurd (false≢true (sym least ∙ ap (λ r. is_gt (row_cmp r a)) (sym (same_row b last (ap is_eq is))) ∙ ap is_gt (turned_back a b less)))
    at Greater is = refl

module _ {V W : Type 0} (listed : List (Row × W)) (rises : T (is_sorted row_cmp listed)) (es : List (Row × V)) (sorted : T (is_sorted row_cmp es)) where
  -- before the place of the first row of a list no row of it stands
  pub unlisted_before : (first : Row × W) → slice_get listed 0 ≡ Some first → (k : ℕ) (d : Row × V) → k < prefix_len (comes_after first.0) es → find row_cmp (slice_index_or es k d).0 listed ≡ None
  unlisted_before first is k d low = at listed rises is
    where
      at : (ls : List (Row × W)) → T (is_sorted row_cmp ls) → slice_get ls 0 ≡ Some first → find row_cmp (slice_index_or es k d).0 ls ≡ None
      at [] rise here = absurd (none-some first here)
      at (l ∷ ls) rise here =
          let other = (slice_index_or es k d).0 in
          let before : is_gt (row_cmp l.0 other) ≡ true = ap (λ (x : Row × W). is_gt (row_cmp x.0 other)) (same_Some l first here) ∙ prefix_len_passes (comes_after first.0) es k d low in
          below_first other l ls rise (ap is_lt (turned l.0 other (is_greater _ before)))

  -- nor does one behind the place of the last
  pub unlisted_behind : (last : Row × W) → slice_get listed (length listed - 1) ≡ Some last → (k : ℕ) (d : Row × V) → prefix_len (comes_after last.0) es < k → k < length es
      → find row_cmp (slice_index_or es k d).0 listed ≡ None
  unlisted_behind last is k d behind below =
      let least = prefix_len_stops (comes_after last.0) es d (omega (arith, behind, below)) in
      let less = rising es sorted (prefix_len (comes_after last.0) es) k d d behind below in
      beyond (slice_index_or es k d).0 listed last rises is (after_least _ _ last.0 less least)

-- an operation has to look at no row that its statement can't match and that it doesn't list
pub unlooked_row : (op : Op) (row : Row) → may_match op.statement row ≡ false → find row_cmp row (finite.entries op.rows) ≡ None → looks_at op row ≡ false
unlooked_row op row off none =
    ap (λ b. b || is_some (finite.get op.rows row)) off ∙ ap is_some (get-entries op.rows row ∙ none)

module _ {A C : Type 0} (test : A → Bool) (f : A → List C) (none : (x : A) → test x ≡ false → f x ≡ []) where
  -- what passes no test makes nothing
  made_by_kept : (xs : List A) → flat_map f (filter test xs) ≡ flat_map f xs
  made_by_kept [] = refl
  made_by_kept (x ∷ xs) =
      elim (test x) as (λ b. test x ≡ b → flat_map f (cond b (x ∷ filter test xs) (filter test xs)) ≡ f x ++ flat_map f xs) [
        | true ↦ λ _. ap (λ ys. f x ++ ys) (made_by_kept xs)
        | false ↦ λ off. made_by_kept xs ∙ sym (ap (λ ys. ys ++ flat_map f xs) (none x off))
      ] refl

-- all that an operation finds is found at the rows between two places, where it has to look at none outside
pub found_between : (h : History) (n : ℕ) (op : Op) (from count : ℕ)
    → ((k : ℕ) (d : Row × List ℕ) → k < from → k < length (finite.entries h.installed) → looks_at op (slice_index_or (finite.entries h.installed) k d).0 ≡ false)
    → ((k : ℕ) (d : Row × List ℕ) → from + count ≤ k → k < length (finite.entries h.installed) → looks_at op (slice_index_or (finite.entries h.installed) k d).0 ≡ false)
    → flat_map (found_at_row h n op) (take count (drop from (rows_of h))) ≡ found_by h n op
found_between h n op from count before behind =
    let es = finite.entries h.installed in
    let g = with_versions h in
    let f = found_at_row h n op in
    let test = (λ (e : Row × List ℕ). looks_at op e.0) in
    let kept = made_by_kept test (λ e. f (g e)) (λ e off. ap (λ b. cond b (walked_in op.statement (g e).1 (reading_of h e.0 n op)) []) off) in
    let part : take count (drop from (rows_of h)) ≡ map g (take count (drop from es)) = ap (take count) (drop-map g from es) ∙ take-map g count (drop from es) in
    ap (flat_map f) part
    ∙ (flat_map-map f g (take count (drop from es))
    ∙ (sym (kept (take count (drop from es)))
    ∙ (ap (flat_map (λ e. f (g e))) (left_between test es from count before behind)
    ∙ (kept es
    ∙ sym (flat_map-map f g es)))))

-- what stands in a part of a list stands in it
pub member_between : {A : Type 0} (from count : ℕ) (xs : List A) (x : A) → Contains (take count (drop from xs)) x → Contains xs x
member_between from count xs x there =
    let dropped = subst (λ ys. Contains ys x) (take-append-drop count (drop from xs)) (Contains-append_left (take count (drop from xs)) (drop count (drop from xs)) x there) in
    subst (λ ys. Contains ys x) (take-append-drop from xs) (Contains-append_right (take from xs) (drop from xs) x dropped)
