-- What a test of the entries of a map of rows says row by row, and what statements have read.
use Rattle.lab_engine.proofs.Common.{ap, below_all, Bool, both, cond, entries, entries_sorted, false, find, find_below, FinMap, get, get-entries, has_read, Initial, inl, inr, is_sorted, IsPermutation-reverse, List, list_any, list_any-IsPermutation, map, matches, None, none_some, Op, Option, or_cases, or_parts, refl, reverse, Row, row_cmp, row_eq, row_eq_self, same_row, same_Some, Some, State, Statement, subst, sym, T, true, true≢false, Version, [], ◌||◌, ◌∙◌, ◌∷◌, ◌≡◌}

-- the version of a row that is absent from the start
abbrev pub absent : Version
absent = record { name = Initial; state = None }

-- an entry of which a test holds
abbrev pub Found : {A : Type 0} → (Row × A → Bool) → (Row → Option A) → Type 0
Found {A} p at = (row : Row) × (v : A) × (at row ≡ Some v) × (p (row, v) ≡ true)

-- a row that is found behind an entry that is below the others isn't that entry's
pub behind : {A : Type 0} (e : Row × A) (es : List (Row × A)) (row : Row) (v : A) → T (below_all row_cmp e.0 es) → find row_cmp row es ≡ Some v → find row_cmp row (e ∷ es) ≡ Some v
behind {A} e es row v below h =
    elim (row_eq row e.0) as (λ b. row_eq row e.0 ≡ b → cond b (Some e.1) (find row_cmp row es) ≡ Some v) [
      | true ↦ λ t. none_some _ (sym (find_below row es (subst (λ x. T (below_all row_cmp x es)) (sym (same_row row e.0 t)) below)) ∙ h)
      | false ↦ λ t. h
    ] refl

found_in : {A : Type 0} (p : Row × A → Bool) (es : List (Row × A)) → T (is_sorted row_cmp es) → list_any p es ≡ true → Found p (λ row. find row_cmp row es)
found_in p [] h any = absurd (true≢false (sym any))
found_in {A} p (e ∷ es) h any =
    let parts = both (below_all row_cmp e.0 es) (is_sorted row_cmp es) h in
    elim (or_cases (p e) (list_any p es) any) [
      | inl here ↦ (e.0, e.1, ap (λ b. cond b (Some e.1) (find row_cmp e.0 es)) (row_eq_self e.0), here)
      | inr there ↦ let f = found_in p es parts.1 there in (f.0, f.1, behind e es f.0 f.1 parts.0 f.2, f.3)
    ]

pub none_in : {A : Type 0} (p : Row × A → Bool) (es : List (Row × A)) → list_any p es ≡ false → (row : Row) (v : A) → find row_cmp row es ≡ Some v → p (row, v) ≡ false
none_in p [] any row v h = none_some _ h
none_in {A} p (e ∷ es) any row v h =
    let parts = or_parts (p e) (list_any p es) any in
    elim (row_eq row e.0) as (λ b. row_eq row e.0 ≡ b → cond b (Some e.1) (find row_cmp row es) ≡ Some v → p (row, v) ≡ false) [
      | true ↦ λ t is. ap p (λ i. (same_row row e.0 t i, sym (same_Some e.1 v is) i)) ∙ parts.0
      | false ↦ λ t is. none_in p es parts.1 row v is
    ] refl h

-- a test that holds of an entry holds of a row and what the map has of it
pub found_of_any : {A : Type 0} (p : Row × A → Bool) (m : FinMap row_cmp A) → list_any p (entries m) ≡ true → Found p (get m)
found_of_any p m any =
    let f = found_in p (entries m) (entries_sorted m) any in
    (f.0, f.1, get-entries m f.0 ∙ f.2, f.3)

-- operations have read what one of their statements matches
any-read : (ops : List Op) (row : Row) (state : State) → list_any (λ s. matches s row state) (map (λ op. op.statement) ops) ≡ has_read ops row state
any-read [] row state = refl
any-read (op ∷ ops) row state = ap (λ b. matches op.statement row state || b) (any-read ops row state)

-- in whichever order they stand
pub any_read : (statements : List Statement) (ops : List Op) (row : Row) (state : State) → statements ≡ reverse (map (λ op. op.statement) ops)
    → list_any (λ s. matches s row state) statements ≡ has_read ops row state
any_read statements ops row state same =
    ap (list_any (λ s. matches s row state)) same
    ∙ sym (list_any-IsPermutation (λ s. matches s row state) (map (λ op. op.statement) ops) (reverse (map (λ op. op.statement) ops)) (IsPermutation-reverse (map (λ op. op.statement) ops)))
    ∙ any-read ops row state
