-- A cycle that is turned to the first of the edges that begin with the least transaction.
use Rattle.std.proofs.{Common.{◌≡◌, ℕ, suc, ◌<◌, ◌≤◌, Bool, true, List, [], ◌∷◌, ◌++◌, length, get_or, take, drop, sym, ap, ◌∙◌, subst, arith}, Math.Seq.{drop-cons}}
use Rattle.std.specs.{List.{IsFirstBest}, Ordering.{nat_cmp, is_lt}}
use Rattle.std.proofs.lemmas.{Bool.Decides.{nat_tests}, List.{take-append-drop, get_or-take, length-take-le, Elements.{All-drop, All-from_get_or}}, Map.Keys.{ge_from_not_lt}}
use Rattle.lab_deps.specs.declared.edge.Edge.{Edge}
use Rattle.lab_judge.specs.LeastWalks.{IsTurnToLeast}

-- whether an edge begins with a lesser transaction than another
abbrev pub begins_lower : Edge → Edge → Bool
begins_lower x y = is_lt (nat_cmp x.from y.from)

lt_from_lt : (a b : ℕ) → is_lt (nat_cmp a b) ≡ true → a < b
lt_from_lt a b h = grind (arith, nat_tests)

-- edges that are turned to the first least begin with it
pub turn_at : (es : List Edge) (k : ℕ) → IsFirstBest begins_lower es (length es) k → (walk : List Edge) → walk ≡ drop k es ++ take k es → IsTurnToLeast es walk
turn_at [] k best walk is = absurd (omega (arith, best.0))
turn_at (e ∷ es) k best walk is =
    let all : List Edge = e ∷ es in
    let first : Edge = get_or all k e in
    let parts : drop k all ≡ first ∷ drop (suc k) all = drop-cons all k e best.0 in
    let size : length (take k all) ≡ k = length-take-le k all (omega (arith, best.0)) in
    record {
      front = take k all;
      first = first;
      rest = drop (suc k) all;
      split = sym (take-append-drop k all) ∙ ap (λ l. take k all ++ l) parts;
      turned = is ∙ ap (λ l. l ++ take k all) parts;
      greater = All-from_get_or (λ f. first.from < f.from) (take k all) e
          (λ j lt. let within : j < k = omega (arith, lt, size) in
          subst (λ f. first.from < f.from) (sym (get_or-take k all j e within)) (lt_from_lt first.from (get_or all j e).from (best.2 j e within)));
      no_less = All-drop (λ f. first.from ≤ f.from) (suc k) all
          (All-from_get_or (λ f. first.from ≤ f.from) all e (λ j lt. ge_from_not_lt (get_or all j e).from first.from (best.1 j e lt)));
    }
