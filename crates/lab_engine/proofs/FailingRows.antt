-- The first row that keeps a statement from running.
use Rattle.lab_engine.{proofs.{Common.{absent_runs, and_parts, ap, AreMatching, below_all, Bool, both, cond, fails, false, false≢true, find, first_failing, Greater, is_less, is_lt, is_some, is_sorted, is_update, IsBelow, IsEffectFault, IsTrue, Less, List, list_any, None, none_some, option_map, refl, Row, row_cmp, row_eq, row_eq_self, same_row, same_Some, selects, Some, State, Statement, StatementKind, subst, sym, T, true, turned_back, Version, ℕ, ℤ, [], ◌||◌, ◌∙◌, ◌∷◌, ◌≡◌, under_condition}, Holding.{behind, none_in}}, specs.declared.effect.EffectFault.TheVariants.{DuplicateKey, OutOfRange}}
use Rattle.lab_table.{specs.{Row.{numbered}, Statement.{kind_fails, kind_inserted, kind_is_update, matched}, declared.statement.StatementKind.TheVariants.{Insert, Update}}, proofs.Statements.{fails_alike}}

-- where none fails, a test of all finds none
none_failing : (s : Statement) (es : List (Row × ℤ)) → first_failing s es ≡ None → list_any (λ e. fails s e.0 (Some e.1)) es ≡ false
none_failing s [] h = refl
none_failing s (e ∷ es) h =
    elim (fails s e.0 (Some e.1)) as (λ b. cond b (Some e.0) (first_failing s es) ≡ None → (b || list_any (λ e. fails s e.0 (Some e.1)) es) ≡ false) [
      | true ↦ λ is. none_some _ (sym is)
      | false ↦ λ is. none_failing s es is
    ] h

-- a row that is found behind a row that is below all comes after that
pub after_found : {A : Type 0} (x : Row) (es : List (Row × A)) (q : Row) (v : A) → T (below_all row_cmp x es) → find row_cmp q es ≡ Some v → row_cmp x q ≡ Less
after_found x [] q v below h = none_some _ h
after_found x (e ∷ es) q v below h =
    let parts = both (is_lt (row_cmp x e.0)) (below_all row_cmp x es) below in
    elim (row_eq q e.0) as (λ t. row_eq q e.0 ≡ t → cond t (Some e.1) (find row_cmp q es) ≡ Some v → row_cmp x q ≡ Less) [
      | true ↦ λ t is. ap (row_cmp x) (same_row q e.0 t) ∙ is_less (row_cmp x e.0) parts.0
      | false ↦ λ t is. after_found x es q v parts.1 is
    ] refl h

-- two rows aren't each below the other
pub not_both_ways : {P : Type 0} (a b : Row) → row_cmp a b ≡ Less → row_cmp b a ≡ Less → P
not_both_ways a b p q = let clash : Less ≡ Greater = sym q ∙ turned_back a b p in cc

-- the first row that fails is found
first_there : (s : Statement) (es : List (Row × ℤ)) (row : Row) → T (is_sorted row_cmp es) → first_failing s es ≡ Some row → (v : ℤ) × (find row_cmp row es ≡ Some v) × (fails s row (Some v) ≡ true)
first_there s [] row h first = none_some _ first
first_there s (e ∷ es) row h first =
    let parts = both (below_all row_cmp e.0 es) (is_sorted row_cmp es) h in
    elim (fails s e.0 (Some e.1)) as (λ b. fails s e.0 (Some e.1) ≡ b → cond b (Some e.0) (first_failing s es) ≡ Some row → (v : ℤ) × (find row_cmp row (e ∷ es) ≡ Some v) × (fails s row (Some v) ≡ true)) [
      | true ↦ λ f is. subst (λ r. (v : ℤ) × (find row_cmp r (e ∷ es) ≡ Some v) × (fails s r (Some v) ≡ true)) (same_Some e.0 row is)
          (e.1, ap (λ t. cond t (Some e.1) (find row_cmp e.0 es)) (row_eq_self e.0), f)
      | false ↦ λ f is. let rest = first_there s es row parts.1 is in (rest.0, behind e es row rest.0 parts.0 rest.1, rest.2)
    ] refl first

-- none below it fails
none_before : (s : Statement) (es : List (Row × ℤ)) (row : Row) → T (is_sorted row_cmp es) → first_failing s es ≡ Some row → (q : Row) (u : ℤ) → IsBelow q row → find row_cmp q es ≡ Some u
    → fails s q (Some u) ≡ false
none_before s [] row h first q u below found = none_some _ found
none_before s (e ∷ es) row h first q u below found =
    at (λ is rest. none_before s es row parts.1 is q u below rest) (fails s e.0 (Some e.1)) refl first (row_eq q e.0) refl found
  where
    parts : T (below_all row_cmp e.0 es) × T (is_sorted row_cmp es)
    parts = both (below_all row_cmp e.0 es) (is_sorted row_cmp es) h

    at : (first_failing s es ≡ Some row → find row_cmp q es ≡ Some u → fails s q (Some u) ≡ false) → (b : Bool) → fails s e.0 (Some e.1) ≡ b → cond b (Some e.0) (first_failing s es) ≡ Some row
        → (t : Bool) → row_eq q e.0 ≡ t → cond t (Some e.1) (find row_cmp q es) ≡ Some u → fails s q (Some u) ≡ false
    at later true f is true t own =
        let itself : row_cmp q q ≡ Less = subst (λ r. row_cmp q r ≡ Less) (sym (same_row q e.0 t ∙ same_Some e.0 row is)) below in not_both_ways q q itself itself
    at later true f is false t rest = not_both_ways q e.0 (subst (λ r. row_cmp q r ≡ Less) (sym (same_Some e.0 row is)) below) (after_found e.0 es q u parts.0 rest)
    at later false f is true t own = (λ i. fails s (same_row q e.0 t i) (sym own i)) ∙ f
    at later false f is false t rest = later is rest

-- a state that matches as a value is that value
matched_as : (s : Statement) (row : Row) (state : State) (v : ℤ) → matched s row state ≡ Some v → state ≡ Some v
matched_as s row None v is = none_some _ is
matched_as s row (Some w) v is = (under_condition (selects s row w) (Some w) v is).1

-- a statement that is refused and is no update adds the row at which it is
kind_refused : (t : List ℕ) (s : StatementKind) (row : Row) (state : State) → kind_is_update s ≡ false → kind_fails t s row state ≡ true
    → option_map (λ (added : Row × ℤ). added.0) (kind_inserted t s) ≡ Some row
kind_refused t (Update expr pred) row state other f = absurd (false≢true (sym other))
kind_refused t (Insert id new) row state other f = ap (λ r. Some r) (sym (same_row row (numbered t id) (and_parts (row_eq row (numbered t id)) (is_some state) f).0))
kind_refused t others row state other f = absurd (false≢true f)

module _ (s : Statement) (sees : Row → Version) (es : List (Row × ℤ)) (are : AreMatching s sees es) where
  -- a row that matches is seen with its value, and one that doesn't keeps nothing from running
  found_as : (q : Row) (v : ℤ) → find row_cmp q es ≡ Some v → (sees q).state ≡ Some v
  found_as q v is = matched_as s q (sees q).state v (sym (are.found q) ∙ is)

  others_go : (q : Row) → find row_cmp q es ≡ None → fails s q (sees q).state ≡ false
  others_go q none = fails_alike s q (sees q).state None (sym (are.found q) ∙ none) ∙ absent_runs s q

  -- where no row that matches fails, none does
  pub all_run : first_failing s es ≡ None → (q : Row) → fails s q (sees q).state ≡ false
  all_run none q = at (find row_cmp q es) refl
    where
      at : (o : State) → find row_cmp q es ≡ o → fails s q (sees q).state ≡ false
      at None is = others_go q is
      at (Some v) is = ap (fails s q) (found_as q v is) ∙ none_in (λ e. fails s e.0 (Some e.1)) es (none_failing s es none) q v is

  -- the first row that fails
  fails_first : (row : Row) → first_failing s es ≡ Some row → IsTrue (fails s row (sees row).state) × ((other : Row) → IsBelow other row → fails s other (sees other).state ≡ false)
  fails_first row first =
      let f = first_there s es row are.sorted first in (ap (fails s row) (found_as row f.0 f.1) ∙ f.2, λ other below. at other below (find row_cmp other es) refl)
    where
      at : (other : Row) → IsBelow other row → (o : State) → find row_cmp other es ≡ o → fails s other (sees other).state ≡ false
      at other below None is = others_go other is
      at other below (Some u) is = ap (fails s other) (found_as other u is) ∙ none_before s es row are.sorted first other u below is

  -- the fault there
  pub update_fails : (row : Row) → is_update s ≡ true → first_failing s es ≡ Some row → IsEffectFault sees s (OutOfRange row)
  update_fails row updates first = let f = fails_first row first in (updates, f.0, f.1)

  pub insert_fails : (row : Row) → is_update s ≡ false → first_failing s es ≡ Some row → IsEffectFault sees s (DuplicateKey row)
  insert_fails row other first = let f = (fails_first row first).0 in (kind_refused s.table s.kind row (sees row).state other f, f)
