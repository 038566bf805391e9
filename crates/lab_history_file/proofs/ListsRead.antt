-- A list whose members begin with a row is read as what its items stand for, and as nothing else.
use Rattle.std.{proofs.{Common.{◌≡◌, ℕ, ◌≤◌, Bool, true, false, T, List, [], ◌∷◌, ◌++◌, length, Some, Result, Ok, Err, refl, sym, ap, subst, ◌∙◌}, lemmas.List.{drop_all}}, specs.{Prelude.{if◌then◌else◌}, FinMap.{FinMap}}}
use Rattle.std.specs.FinMap as finite
use Rattle.serde_json.specs.{Data.{Data}, Find.{as_array}, View.{items_view}, declared.value.Value.{Value}}
use Rattle.lab_table.{specs.Row.{Row, row_cmp}, proofs.Tests.{both, joined}}
use Rattle.lab_history.{specs.{Faults.{required}, RowOrder.{follows}, declared.{fault.FileFault.{FileFault}, path.ListPlace.{ListPlace}}}, proofs.{Steps.{both_ok, step_on, required_ok, required_is}, Rising.{rises_after, rises_all}}}
use Rattle.lab_history_file.{specs.{Behind.{AllStand}, Entries.{items_from, last_row, placed_in, entries_in}, FileOf.{IsListOf, IsMapOf}}, proofs.{ItemsRead.{read_on, items_read, items_are_read}, JsonShapes.{array_of}}}
use Rattle.lab_history.specs.declared.path.Path.TheVariants as path

-- a map of entries in order is the map again
pub map_again : {X : Type 0} (m : FinMap row_cmp X) → finite.from_sorted (finite.entries m) ≡ m
map_again m = finite.same_entries_map _ m (finite.entries-from_sorted row_cmp (finite.entries m) (finite.entries_sorted m))

-- ---- rows that follow

-- the last row with one more entry
pub last_pushed : {X : Type 0} (es : List (Row × X)) (e : Row × X) → last_row (es ++ e ∷ []) ≡ Some e.0
last_pushed [] e = refl
last_pushed (f ∷ []) e = refl
last_pushed (f ∷ g ∷ es) e = last_pushed (g ∷ es) e

abbrev pub Follows : {X : Type 0} → List (Row × X) → Row × X → Type 0
Follows before x = T (follows (last_row before) x.0)

-- rows of which each follows rise, and rows that rise follow
pub follow_rise : {X : Type 0} (before xs : List (Row × X)) → AllStand Follows before xs → T (rises_after (last_row before) xs)
follow_rise before [] all = tt
follow_rise before (x ∷ xs) all = joined _ _ all.0 (subst (λ o. T (rises_after o xs)) (last_pushed before x) (follow_rise (before ++ x ∷ []) xs all.1))

rise_follow : {X : Type 0} (before xs : List (Row × X)) → T (rises_after (last_row before) xs) → AllStand Follows before xs
rise_follow before [] rise = tt
rise_follow before (x ∷ xs) rise =
    let parts = both (follows (last_row before) x.0) (rises_after (Some x.0) xs) rise in
    (parts.0, rise_follow (before ++ x ∷ []) xs (subst (λ o. T (rises_after o xs)) (sym (last_pushed before x)) parts.1))

-- what was read where a test passed, and what is read where it passes
when_passed : {A : Type 0} (b : Bool) (r : Result A FileFault) (g : FileFault) (y : A) → (if b then r else Err g) ≡ Ok y → T b × (r ≡ Ok y)
when_passed true r g y e = (tt, e)
when_passed false r g y e = absurd cc

passed : {A : Type 0} (b : Bool) (r q : Result A FileFault) → T b → (if b then r else q) ≡ r
passed true r q t = refl
passed false r q t = absurd t

module _ {X : Type 0} (read : ℕ → Data → Result (Row × X) FileFault) (place : ListPlace) where
  -- ---- entries behind others

  pub placed_ok : (before : List (Row × X)) (i : ℕ) (d : Data) (x : Row × X) → placed_in read place before i d ≡ Ok x → (read i d ≡ Ok x) × Follows before x
  placed_ok before i d x e =
      let first = both_ok (read i d) _ x e in
      let follow = when_passed (follows (last_row before) first.0.0) (Ok first.0) _ x first.2 in
      let same : first.0 ≡ x = let there = follow.1 in cc in
      (first.1 ∙ ap (λ y. Ok y) same, subst (Follows before) same follow.0)

  placed_is : (before : List (Row × X)) (i : ℕ) (d : Data) (x : Row × X) → read i d ≡ Ok x → Follows before x → placed_in read place before i d ≡ Ok x
  placed_is before i d x e follow = step_on _ e (passed (follows (last_row before) x.0) _ _ follow)

  -- ---- lists

  module _ (Is : Data → Row × X → Type 0) where
    module _ (reads : (i : ℕ) (d : Data) (x : Row × X) → read i d ≡ Ok x → Is d x) where
      -- what is read of a list are rising items that the list stands for
      pub entries_read : (d : Data) (xs : List (Row × X)) → entries_in read place d ≡ Ok xs → IsListOf Is d xs × T (finite.is_sorted row_cmp xs)
      entries_read d xs e =
          let found = both_ok (required (path.List place) (as_array d)) _ xs e in
          let all = items_read (placed_in read place) Is Follows (λ before i m x is. let ok = placed_ok before i m x is in (reads i m x ok.0, ok.1)) [] 0 found.0 xs found.2 in
          subst (λ ys. IsListOf Is d ys × T (finite.is_sorted row_cmp ys)) (sym all.1)
          ((found.0, array_of d found.0 (required_ok _ _ _ found.1), all.2), subst T (rises_all all.0) (follow_rise [] all.0 all.3))

      -- and a map
      pub map_read : (d : Data) (xs : List (Row × X)) → entries_in read place d ≡ Ok xs → IsMapOf Is d (finite.from_sorted xs)
      map_read d xs e = let is = entries_read d xs e in subst (IsListOf Is d) (sym (finite.entries-from_sorted row_cmp xs is.1)) is.0

    -- rising items that a list stands for are read of it
    pub entries_are_read : ((i : ℕ) (d : Data) (x : Row × X) → Is d x → read i d ≡ Ok x) → (d : Data) (xs : List (Row × X)) → IsListOf Is d xs → T (finite.is_sorted row_cmp xs) → entries_in read place d ≡ Ok xs
    entries_are_read are d xs is rise =
        step_on _ (required_is (path.List place) (ap as_array is.1))
        (items_are_read (placed_in read place) Is Follows (λ before i m x one follow. placed_is before i m x (are i m x one) follow) [] 0 is.0 xs is.2 (rise_follow [] xs (subst T (sym (rises_all xs)) rise)))

  -- at the end of a loop all were read, and rise strictly
  pub all_sorted : (d : Data) (values : List Value) (es : List (Row × X)) (at : ℕ) → length values ≤ at → read_on (placed_in read place) es at values ≡ entries_in read place d → T (finite.is_sorted row_cmp es)
  all_sorted d values es at end found =
      let all : read_on (placed_in read place) es at values ≡ Ok es = ap (λ vs. items_from (placed_in read place) es at (items_view vs)) (drop_all at values end) in
      (entries_read (λ _ _. Unit {0}) (λ _ _ _ _. tt) d es (sym found ∙ all)).1
