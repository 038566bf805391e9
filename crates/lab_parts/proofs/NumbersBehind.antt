-- How many times a number stands among numbers that stand behind so many others.
use Rattle.std.proofs.{Common.{◌≡◌, ℕ, ◌+◌, ◌<◌, ◌==◌, cond, List, [], ◌∷◌, map, refl, ap, ◌∙◌, arith}, lemmas.Bool.{ne_eqb}}
use Rattle.lab_deps.proofs.Places.{times}
use Rattle.lab_parts.proofs.JoinedTxns.{same_behind}

-- as often as it stood where they were
pub times_behind : (k m : ℕ) (ns : List ℕ) → times (k + m) (map (λ n. k + n) ns) ≡ times m ns
times_behind k m [] = refl
times_behind k m (n ∷ ns) =
    ap (λ b. cond b (1 + times (k + m) (map (λ n. k + n) ns)) (times (k + m) (map (λ n. k + n) ns))) (same_behind k n m)
    ∙ ap (λ x. cond (n == m) (1 + x) x) (times_behind k m ns)

-- and never where it is one of the others
pub times_before : (k m : ℕ) (ns : List ℕ) → m < k → times m (map (λ n. k + n) ns) ≡ 0
times_before k m [] less = refl
times_before k m (n ∷ ns) less =
    ap (λ b. cond b (1 + times m (map (λ n. k + n) ns)) (times m (map (λ n. k + n) ns))) (ne_eqb (k + n) m (λ e. omega (arith, e, less))) ∙ times_before k m ns less
