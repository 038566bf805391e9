-- Lists whose front is put behind.
use Rattle.std.proofs.Common.{◌≡◌, ◌⊎◌, inl, inr, ℕ, zero, suc, ◌+◌, ◌<◌, ◌≤◌, refl, sym, ap, subst, ◌∙◌, arith, Bool, ◌||◌, List, [], ◌∷◌, ◌++◌, take, drop, length, get_or}
use Rattle.std.specs.{Prelude.{◌==◌, IsTrue}, List.{All, count_by, list_any}}
use Rattle.std.proofs.lemmas.{Bool.{or_cases, or_left, or_right}, List.{take-append-drop, Elements.{All-append, All-take, All-drop}, Folds.{list_any-append}, Sums.{sum_by-append}}}
use Rattle.lab_order.{specs.{Steps.{is_in}, Trails.{BeginsWithLeast}}, proofs.MarkedCounts.{one_if}}

-- from a place on a list begins with what stands there
from_there : (xs : List ℕ) (n : ℕ) → n < length xs → drop n xs ≡ get_or xs n 0 ∷ drop (suc n) xs
from_there [] n lt = absurd (omega arith)
from_there (x ∷ xs) zero lt = refl
from_there (x ∷ xs) (suc n) lt = from_there xs n (omega arith)

-- a list that is turned to its least begins with it
pub turned_first : (place : ℕ) (nodes : List ℕ) → (0 < length nodes → place < length nodes) → All (λ n. get_or nodes place 0 ≤ n) nodes → BeginsWithLeast (drop place nodes ++ take place nodes)
turned_first zero [] within all = tt
turned_first (suc place) [] within all = tt
turned_first place (x ∷ xs) within all =
    subst (λ front. BeginsWithLeast (front ++ take place (x ∷ xs))) (sym (from_there (x ∷ xs) place (within (omega arith))))
    (All-append (λ n. get_or (x ∷ xs) place 0 ≤ n) (drop (suc place) (x ∷ xs)) (take place (x ∷ xs))
    (All-drop (λ n. get_or (x ∷ xs) place 0 ≤ n) (suc place) (x ∷ xs) all) (All-take (λ n. get_or (x ∷ xs) place 0 ≤ n) place (x ∷ xs) all))

-- each node is there as often
pub turned_count : (test : ℕ → Bool) (place : ℕ) (nodes : List ℕ) → count_by test (drop place nodes ++ take place nodes) ≡ count_by test nodes
turned_count test place nodes =
    let a : count_by test (drop place nodes ++ take place nodes) ≡ count_by test (drop place nodes) + count_by test (take place nodes) =
    sum_by-append (λ n. one_if (test n)) (drop place nodes) (take place nodes) in
    let b : count_by test (take place nodes ++ drop place nodes) ≡ count_by test (take place nodes) + count_by test (drop place nodes) =
    sum_by-append (λ n. one_if (test n)) (take place nodes) (drop place nodes) in
    let c : count_by test (take place nodes ++ drop place nodes) ≡ count_by test nodes = ap (count_by test) (take-append-drop place nodes) in
    omega arith

-- in the front of a list none is more often than in all of it
pub front_count : (test : ℕ → Bool) (place : ℕ) (nodes : List ℕ) → count_by test (take place nodes) ≤ count_by test nodes
front_count test place nodes =
    let b : count_by test (take place nodes ++ drop place nodes) ≡ count_by test (take place nodes) + count_by test (drop place nodes) =
    sum_by-append (λ n. one_if (test n)) (take place nodes) (drop place nodes) in
    let c : count_by test (take place nodes ++ drop place nodes) ≡ count_by test nodes = ap (count_by test) (take-append-drop place nodes) in
    omega arith

-- what is in the front of a list is in it
pub in_front : (node place : ℕ) (nodes : List ℕ) → IsTrue (is_in (take place nodes) node) → IsTrue (is_in nodes node)
in_front node place nodes h =
    ap (list_any (λ n. n == node)) (sym (take-append-drop place nodes)) ∙ list_any-append (λ n. n == node) (take place nodes) (drop place nodes)
    ∙ or_left (is_in (take place nodes) node) (is_in (drop place nodes) node) h

-- and what is in a turned list is in the list
pub in_turned : (node place : ℕ) (nodes : List ℕ) → IsTrue (is_in (drop place nodes ++ take place nodes) node) → IsTrue (is_in nodes node)
in_turned node place nodes h = at (or_cases (is_in (drop place nodes) node) (is_in (take place nodes) node) (sym (list_any-append (λ n. n == node) (drop place nodes) (take place nodes)) ∙ h))
  where
    whole : IsTrue (is_in (take place nodes) node || is_in (drop place nodes) node) → IsTrue (is_in nodes node)
    whole h = ap (list_any (λ n. n == node)) (sym (take-append-drop place nodes)) ∙ list_any-append (λ n. n == node) (take place nodes) (drop place nodes) ∙ h

    at : IsTrue (is_in (drop place nodes) node) ⊎ IsTrue (is_in (take place nodes) node) → IsTrue (is_in nodes node)
    at (inl behind) = whole (or_right (is_in (take place nodes) node) (is_in (drop place nodes) node) behind)
    at (inr front) = whole (or_left (is_in (take place nodes) node) (is_in (drop place nodes) node) front)
