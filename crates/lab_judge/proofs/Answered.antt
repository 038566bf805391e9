-- What holds of each answer, where there is one.
use Rattle.std.{proofs.Common.{◌≡◌, List, [], ◌∷◌, map, Ok, Result, IfOk, subst}, specs.List.{AllZip}}

-- the same of results that are all answers
on_answers : {X A : Type 0} (E : Type 0) (P : X → A → Type 0) (xs : List X) (ys : List A) → AllZip (λ (x : X) (r : Result A E). IfOk r (P x)) xs (map Ok ys) → AllZip P xs ys
on_answers E P [] [] each = each
on_answers E P [] (y ∷ ys) each = each
on_answers E P (x ∷ xs) [] each = each
on_answers E P (x ∷ xs) (y ∷ ys) each = (each.0, on_answers E P xs ys each.1)

-- where each result is an answer, what holds of each answer holds of the answers
pub all_answers : {X A E : Type 0} (P : X → A → Type 0) (xs : List X) (rs : List (Result A E)) (ys : List A) → rs ≡ map Ok ys
    → AllZip (λ (x : X) (r : Result A E). IfOk r (P x)) xs rs → AllZip P xs ys
all_answers {X} {A} {E} P xs rs ys same each = on_answers E P xs ys (subst (AllZip (λ (x : X) (r : Result A E). IfOk r (P x)) xs) same each)
