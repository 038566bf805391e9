-- Steps along lists.
use Rattle.std.{proofs.Common.{◌≡◌, ℕ, zero, suc, ◌+◌, Bool, true, false, cond, List, [], ◌∷◌, ◌++◌, drop, refl, sym, ap, ◌∙◌, add-one}, specs.FinMap.Entries.{where_key}}
use Rattle.lab_table.specs.Row.{Row, row_cmp}
use Rattle.lab_history.specs.{VersionName.{new_states, state_value}, declared.operation.State.{State}}

-- one more state
pub new_states_push : (xs : List (Row × State)) (e : Row × State) → new_states (xs ++ e ∷ []) ≡ new_states xs ++ (e.0, state_value e.1) ∷ []
new_states_push [] e = refl
new_states_push (x ∷ xs) e = ap (λ ys. (x.0, state_value x.1) ∷ ys) (new_states_push xs e)

-- what is behind one more
behind : {A : Type 0} (xs : List A) (i : ℕ) → drop 1 (drop i xs) ≡ drop (suc i) xs
behind [] zero = refl
behind [] (suc i) = refl
behind (x ∷ xs) zero = refl
behind (x ∷ xs) (suc i) = behind xs i

pub drop_one_more : {A : Type 0} (xs : List A) (i : ℕ) → drop 1 (drop i xs) ≡ drop (i + 1) xs
drop_one_more xs i = behind xs i ∙ ap (λ n. drop n xs) (sym (add-one i))

-- the states of rows that pass a test
pub states_where : (test : Row → Bool) (es : List (Row × State)) → new_states (where_key row_cmp test es) ≡ where_key row_cmp test (new_states es)
states_where test [] = refl
states_where test (e ∷ es) =
    let rest = states_where test es in
    elim (test e.0) as (λ b. new_states (cond b (e ∷ where_key row_cmp test es) (where_key row_cmp test es)) ≡ cond b ((e.0, state_value e.1) ∷ where_key row_cmp test (new_states es)) (where_key row_cmp test (new_states es))) [
      | true ↦ ap (λ ys. (e.0, state_value e.1) ∷ ys) rest
      | false ↦ rest
    ]
