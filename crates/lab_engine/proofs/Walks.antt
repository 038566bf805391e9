-- Walks to a goal along the graph of who waits for whom.
use Rattle.lab_engine.proofs.{Common.{AllByRecursion, AllDistinct, Any-from_list_any, ap, arith, Bool, both_ways, eq-eqb, eqb-false, eqb-true, false, false_from_ne_true, inl, inr, IsRound, IsTrue, IsWalk, length, List, list_any, list_any_at, ne_eqb, or_cases, or_parts, refl, subst, sym, true, waits_for, ℕ, [], ◌<◌, ◌==◌, ◌∙◌, ◌∷◌, ◌≡◌, ◌≤◌, ◌⊎◌}, WaitGraphs.{waiter_range}}
use Rattle.std.{specs.List.{IsDistinct}, proofs.lemmas.Map.Steps.{length-le_from_distinct_below}}

-- from each session on a walk on which nobody stands twice such a walk leads to the goal, which is no longer
from_there : (graph : List ℕ) (session there goal : ℕ) (rest : List ℕ) → IsWalk graph session rest goal → AllDistinct (session ∷ rest) → IsTrue (list_any (λ m. m == there) (session ∷ rest))
    → (other : List ℕ) × IsWalk graph there other goal × AllDistinct (there ∷ other) × (length other ≤ length rest)
from_there graph session there goal [] walk once on = elim (or_cases (session == there) false on) [
  | inl p ↦ subst (λ k. (other : List ℕ) × IsWalk graph k other goal × AllDistinct (k ∷ other) × (length other ≤ 0)) (eqb-true session there p) ([], walk, once, omega arith)
  | inr p ↦ absurd (both_ways _ refl p)
]
from_there graph session there goal (next ∷ rest) walk once on = at (from_there graph next there goal rest walk.1 once.1) (or_cases (session == there) (list_any (λ m. m == there) (next ∷ rest)) on)
  where
    at : (IsTrue (list_any (λ m. m == there) (next ∷ rest)) → (other : List ℕ) × IsWalk graph there other goal × AllDistinct (there ∷ other) × (length other ≤ length rest))
        → (IsTrue (session == there) ⊎ IsTrue (list_any (λ m. m == there) (next ∷ rest)))
        → (other : List ℕ) × IsWalk graph there other goal × AllDistinct (there ∷ other) × (length other ≤ length (next ∷ rest))
    at later (inl p) = subst (λ k. (other : List ℕ) × IsWalk graph k other goal × AllDistinct (k ∷ other) × (length other ≤ length (next ∷ rest))) (eqb-true session there p)
        (next ∷ rest, walk, once, omega arith)
    at later (inr p) = let on : (other : List ℕ) × IsWalk graph there other goal × AllDistinct (there ∷ other) × (length other ≤ length rest) = later p in
        (on.0, on.1, on.2, omega (arith, on.3))

-- where a walk leads, one leads on which nobody stands twice
pub once_walk : (graph : List ℕ) (session goal : ℕ) (rest : List ℕ) → IsWalk graph session rest goal → (other : List ℕ) × IsWalk graph session other goal × AllDistinct (session ∷ other)
once_walk graph session goal [] walk = ([], walk, (refl, tt))
once_walk graph session goal (next ∷ rest) walk = at (once_walk graph next goal rest walk.1)
  where
    at : (other : List ℕ) × IsWalk graph next other goal × AllDistinct (next ∷ other) → (other : List ℕ) × IsWalk graph session other goal × AllDistinct (session ∷ other)
    at (other, on, once) = by (list_any (λ m. m == session) (next ∷ other)) refl
      where
        by : (b : Bool) → list_any (λ m. m == session) (next ∷ other) ≡ b → (o : List ℕ) × IsWalk graph session o goal × AllDistinct (session ∷ o)
        by true q = let back = from_there graph next session goal other on once q in (back.0, back.1, back.2)
        by false q = (next ∷ other, (walk.0, on), (q, once))

-- a session isn't on a shortest walk behind it
not_behind : (graph : List ℕ) (goal session next : ℕ) (rest : List ℕ) → IsWalk graph next rest goal → AllDistinct (next ∷ rest)
    → ((other : List ℕ) → IsWalk graph session other goal → length (next ∷ rest) ≤ length other) → list_any (λ m. m == session) (next ∷ rest) ≡ false
not_behind graph goal session next rest walk once short = false_from_ne_true _ (λ there.
    let on : (other : List ℕ) × IsWalk graph session other goal × AllDistinct (session ∷ other) × (length other ≤ length rest) = from_there graph next session goal rest walk once there in
    let le : length (next ∷ rest) ≤ length on.0 = short on.0 on.1 in
    omega (arith, le, on.3))

-- on a walk than which none is shorter nobody stands twice
pub shortest_once : (graph : List ℕ) (goal session : ℕ) (rest : List ℕ) → IsWalk graph session rest goal → ((other : List ℕ) → IsWalk graph session other goal → length rest ≤ length other)
    → AllDistinct (session ∷ rest)
shortest_once graph goal session [] walk short = (refl, tt)
shortest_once graph goal session (next ∷ rest) walk short =
    let behind = shortest_once graph goal next rest walk.1 (λ other w. omega (arith, short (next ∷ other) (walk.0, w))) in
    (not_behind graph goal session next rest walk.1 behind short, behind)

-- all on a walk wait, so they are sessions
walkers : (graph : List ℕ) (goal session : ℕ) (rest : List ℕ) → IsWalk graph session rest goal → (n : ℕ) → IsTrue (list_any (λ m. m == n) (session ∷ rest)) → (1 ≤ n) × (n ≤ 9)
walkers graph goal session [] walk n there = elim (or_cases (session == n) false there) [
  | inl p ↦ subst (λ k. (1 ≤ k) × (k ≤ 9)) (eqb-true session n p) (waiter_range graph session goal walk)
  | inr p ↦ absurd (both_ways _ refl p)
]
walkers graph goal session (next ∷ rest) walk n there = elim (or_cases (session == n) (list_any (λ m. m == n) (next ∷ rest)) there) [
  | inl p ↦ subst (λ k. (1 ≤ k) × (k ≤ 9)) (eqb-true session n p) (waiter_range graph session next walk.0)
  | inr p ↦ walkers graph goal next rest walk.1 n p
]

-- numbers that differ are distinct keys
apart_from : (n : ℕ) (ns : List ℕ) → list_any (λ m. m == n) ns ≡ false → AllByRecursion (λ m. (n == m) ≡ false) ns
apart_from n [] h = tt
apart_from n (m ∷ ns) h =
    let parts = or_parts (m == n) (list_any (λ k. k == n) ns) h in (ne_eqb n m (λ same. eqb-false m n parts.0 (sym same)), apart_from n ns parts.1)

distinct_keys : (ns : List ℕ) → AllDistinct ns → IsDistinct (λ a b. a == b) ns
unfolding IsDistinct
distinct_keys [] once = tt
distinct_keys (n ∷ ns) once = (apart_from n ns once.0, distinct_keys ns once.1)

found_there : (n : ℕ) (ns : List ℕ) → list_any (λ m. n == m) ns ≡ true → IsTrue (list_any (λ m. m == n) ns)
found_there n ns h =
    let f = Any-from_list_any (λ m. n == m) ns h in list_any_at (λ m. m == n) ns f.0 f.1 f.2 (ap (λ m. m == n) f.3 ∙ eq-eqb f.1 n (sym (eqb-true n f.1 f.4)))

-- on a walk on which nobody stands twice are at most nine
pub once_few : (graph : List ℕ) (goal session : ℕ) (rest : List ℕ) → IsWalk graph session rest goal → AllDistinct (session ∷ rest) → length rest < 9
once_few graph goal session rest walk once =
    omega (arith, length-le_from_distinct_below (0 ∷ session ∷ rest) 10 (distinct_keys (0 ∷ session ∷ rest) (nobody, once)) below)
  where
    nobody : list_any (λ m. m == 0) (session ∷ rest) ≡ false
    nobody = false_from_ne_true _ (λ there. omega (arith, (walkers graph goal session rest walk 0 there).0))

    below : (n : ℕ) → list_any (λ m. n == m) (0 ∷ session ∷ rest) ≡ true → n < 10
    below n there = elim (or_cases (n == 0) (list_any (λ m. n == m) (session ∷ rest)) there) [
      | inl p ↦ omega (arith, eqb-true n 0 p)
      | inr p ↦ omega (arith, (walkers graph goal session rest walk n (found_there n (session ∷ rest) p)).1)
    ]

-- somebody waits for the goal of a walk
last_waits : (graph : List ℕ) (session goal : ℕ) (rest : List ℕ) → IsWalk graph session rest goal → (waiter : ℕ) × IsTrue (waits_for graph waiter goal)
last_waits graph session goal [] walk = (session, walk)
last_waits graph session goal (next ∷ rest) walk = last_waits graph next goal rest walk.1

-- and for each on a cycle
pub waited_for : (graph : List ℕ) (session : ℕ) (circle : List ℕ) → IsRound graph session circle → (waiter : ℕ) × IsTrue (waits_for graph waiter session)
waited_for graph session [] round = absurd round
waited_for graph session (first ∷ rest) round = last_waits graph session session rest round.1
