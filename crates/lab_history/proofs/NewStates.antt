-- Written rows by their new states: the same rows, each with its state as contracts see it.
use Rattle.std.{proofs.Common.{◌≡◌, true, false, cond, ◌&&◌, List, [], ◌∷◌, Some, refl, ap, ◌∙◌}, specs.{Prelude.{ℤ, Option, option_map}, Ordering.{is_eq, is_lt}, FinMap.{find, is_sorted, Entries.{below_all}}}}
use Rattle.lab_table.specs.Row.{Row, row_cmp}
use Rattle.lab_history.specs.{VersionName.{new_states, state_value}, declared.operation.State.{State, TheVariants.{Absent, Present}}}

-- the rows stay
below_states : (row : Row) (es : List (Row × State)) → below_all row_cmp row (new_states es) ≡ below_all row_cmp row es
below_states row [] = refl
below_states row (e ∷ es) = ap (λ b. is_lt (row_cmp row e.0) && b) (below_states row es)

-- and so does their order
pub new_states_sorted : (es : List (Row × State)) → is_sorted row_cmp (new_states es) ≡ is_sorted row_cmp es
new_states_sorted [] = refl
new_states_sorted (e ∷ es) = ap (λ b. b && is_sorted row_cmp (new_states es)) (below_states e.0 es) ∙ ap (λ b. below_all row_cmp e.0 es && b) (new_states_sorted es)

-- a row's new state is its state
pub find_states : (row : Row) (es : List (Row × State)) → option_map state_value (find row_cmp row es) ≡ find row_cmp row (new_states es)
find_states row [] = refl
find_states row (e ∷ es) =
    elim (is_eq (row_cmp row e.0)) as (λ t. option_map state_value (cond t (Some e.1) (find row_cmp row es)) ≡ cond t (Some (state_value e.1)) (find row_cmp row (new_states es))) [
      | true ↦ refl
      | false ↦ find_states row es
    ]

state_same : (x y : State) → state_value x ≡ state_value y → x ≡ y
state_same Absent Absent h = refl
state_same Absent (Present v) h = absurd (cc)
state_same (Present v) Absent h = absurd (cc)
state_same (Present v) (Present w) h = let same : v ≡ w = cc in ap Present same

-- written states are the same where what they stand for is
pub states_same : (xs ys : List (Row × State)) → new_states xs ≡ new_states ys → xs ≡ ys
states_same [] [] h = refl
states_same [] (y ∷ ys) h = absurd (cc)
states_same (x ∷ xs) [] h = absurd (cc)
states_same (x ∷ xs) (y ∷ ys) h =
    let first : ◌≡◌ {A = Row × Option ℤ} (x.0, state_value x.1) (y.0, state_value y.1) = cc in
    let row : x.0 ≡ y.0 = ap (λ (p : Row × Option ℤ). p.0) first in
    let state : x.1 ≡ y.1 = state_same x.1 y.1 (ap (λ (p : Row × Option ℤ). p.1) first) in
    let rest : xs ≡ ys = states_same xs ys (cc) in
    λ i. (row i, state i) ∷ rest i
