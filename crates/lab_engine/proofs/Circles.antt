-- Cycles of sessions, each blocked by the next, as walks along the graph of who waits for whom.
use Rattle.lab_engine.{proofs.{Common.{ap, AreWaits, arith, BlockedBy, both_ways, cases_eq, Contains, Err, false_from_ne_true, IfOk, inl, inr, IsChain, IsCircle, IsLeastCircle, IsRetryable, IsRound, IsTrue, IsWalk, length, Level, List, MatchOption, MayAsk, None, NotAfter, Ok, Option, Past, refl, Result, same_Some, Some, Statement, subst, suc, sym, Table, waiting, waits_for, WaitsOn, ℕ, [], ◌<◌, ◌∙◌, ◌∷◌, ◌≡◌, ◌≤◌, ◌⊎◌}, Waiting.{AreWaitsWith, asked_is, contains_any}}, specs.{LeastWalk.{IsLeastRound}, Released.{IsReleased}}}

-- a walk begins with a step
first_step : (waits : List ℕ) (session : ℕ) (rest : List ℕ) (goal : ℕ) → IsWalk waits session rest goal → (other : ℕ) × IsTrue (waits_for waits session other)
first_step waits session [] goal walk = (goal, walk)
first_step waits session (next ∷ rest) goal (first, walk) = (next, first)

module _ (level : Level) (setup : Table) (past : Past) (waits : List ℕ) where
  -- a walk is a chain where each on it waits for those that the graph has
  chain_of : (goal : ℕ) (rest : List ℕ) (waiter : ℕ) (asked : Statement)
      → ((next : ℕ) → Contains rest next → (other : ℕ) → IsTrue (waits_for waits next other) → WaitsOn level setup past next other)
      → ((other : ℕ) → IsTrue (waits_for waits waiter other) → BlockedBy level setup past waiter asked other)
      → IsWalk waits waiter rest goal → IsChain level setup past waiter asked rest goal
  chain_of goal [] waiter asked on own walk = own goal walk
  chain_of goal (next ∷ rest) waiter asked on own (first, walk) =
      let step = first_step waits next rest goal walk in
      let held = on next (0, omega arith, refl) step.0 step.1 in (
        own next first,
        held.0,
        held.1,
        chain_of goal rest next held.0 (λ k c. on k (suc c.0, omega arith, c.2))
            (λ other w. let o = on next (0, omega arith, refl) other w in subst (λ t. BlockedBy level setup past next t other) (same_Some o.0 held.0 (sym o.1 ∙ held.1)) o.2) walk,
      )

  -- a chain is a walk where the graph has whom each on it waits for
  walk_of : (goal : ℕ) (rest : List ℕ) (waiter : ℕ) (asked : Statement)
      → ((next : ℕ) (s : Statement) → waiting past next ≡ Some s → (other : ℕ) → BlockedBy level setup past next s other → IsTrue (waits_for waits next other))
      → ((other : ℕ) → BlockedBy level setup past waiter asked other → IsTrue (waits_for waits waiter other))
      → IsChain level setup past waiter asked rest goal → IsWalk waits waiter rest goal
  walk_of goal [] waiter asked all own chain = own goal chain
  walk_of goal (next ∷ rest) waiter asked all own (b, s, is, chain) = (own next b, walk_of goal rest next s all (all next s is) chain)

-- ---- the graph with what a session asks for

module _ (level : Level) (setup : Table) (past : Past) (waits : List ℕ) (session : ℕ) (s : Statement) (h : AreWaitsWith level setup past session s waits) where
  -- a round of the graph is a cycle
  round_circle : (circle : List ℕ) → IsRound waits session circle → IsCircle level setup past session s circle
  round_circle [] round = round
  round_circle (first ∷ rest) (own, walk, once) = (own, once, chain_of level setup past waits session rest session s on (λ other. (h.0 other).0) walk)
    where
      on : (next : ℕ) → Contains rest next → (other : ℕ) → IsTrue (waits_for waits next other) → WaitsOn level setup past next other
      on next c other = (h.1 next other (λ same. both_ways _ once.0 (contains_any rest first (subst (Contains rest) (same ∙ sym own) c)))).0

  module _ (may : MayAsk past session s) where
    -- a cycle is a walk of the graph
    circle_walk : (first : ℕ) (rest : List ℕ) → IsCircle level setup past session s (first ∷ rest) → IsWalk waits session rest session
    circle_walk first rest (own, once, chain) = walk_of level setup past waits session rest session s all (λ other. (h.0 other).1) chain
      where
        all : (next : ℕ) (t : Statement) → waiting past next ≡ Some t → (other : ℕ) → BlockedBy level setup past next t other → IsTrue (waits_for waits next other)
        all next t is other b = elim (cases_eq next session) [
          | inl same ↦ subst (λ k. IsTrue (waits_for waits k other)) (sym same)
              ((h.0 other).1 (subst (λ u. BlockedBy level setup past session u other) (asked_is past session s t may (subst (λ k. waiting past k ≡ Some t) same is))
              (subst (λ k. BlockedBy level setup past k t other) same b)))
          | inr apart ↦ (h.1 next other apart).1 (t, is, b)
        ]

    -- the least round is the least cycle on which the session stands
    least_circle : (circle : List ℕ) → IsLeastRound waits session circle → IsLeastCircle level setup past session s circle
    least_circle circle l = record { is_circle = round_circle circle l.round; shortest = shortest; least = least }
      where
        shortest : (other : List ℕ) → IsCircle level setup past session s other → length circle ≤ length other
        shortest [] c = absurd c
        shortest (first ∷ rest) c = omega (arith, l.shortest rest (circle_walk first rest c))

        least : (other : List ℕ) → IsCircle level setup past session s other → length other ≡ length circle → NotAfter circle other
        least [] c same = absurd c
        least (first ∷ rest) c same = subst (λ k. NotAfter circle (k ∷ rest)) (sym c.0) (l.least rest (circle_walk first rest c) (omega (arith, same)))

    -- what a search of the graph says of a deadlock
    pub deadlock_is : {E : Type 0} (result : Result (Option (List ℕ)) E) → IfOk result (λ found. MatchOption found ((rest : List ℕ) → ¬ IsWalk waits session rest session) (IsLeastRound waits session))
        → IfOk result (λ found. MatchOption found ((circle : List ℕ) → ¬ IsCircle level setup past session s circle) (IsLeastCircle level setup past session s))
    deadlock_is (Ok (Some circle)) least = least_circle circle least
    deadlock_is (Ok None) none = nobody
      where
        nobody : (circle : List ℕ) → ¬ IsCircle level setup past session s circle
        nobody [] c = c
        nobody (first ∷ rest) c = none rest (circle_walk first rest c)
    deadlock_is (Err e) found = tt

-- ---- sessions that are released

module _ (level : Level) (setup : Table) (past : Past) (waits : List ℕ) (session : ℕ) where
  -- of a session that waits the graph has the blockers of its statement
  waits_own : (s : Statement) → AreWaits level setup past waits → waiting past session ≡ Some s → AreWaitsWith level setup past session s waits
  waits_own s h is = (
    (λ other. (
      (λ w. let held = (h session other).0 w in subst (λ t. BlockedBy level setup past session t other) (same_Some held.0 s (sym held.1 ∙ is)) held.2),
      (λ b. (h session other).1 (s, is, b)),
    )),
    (λ waiter other _. h waiter other),
  )

  -- a waiting session that is released is retryable
  pub released_retryable : (s : Statement) → AreWaits level setup past waits → waiting past session ≡ Some s → IsReleased waits session → IsRetryable level setup past session
  released_retryable s h is (inl nobody) = (s, is, inl (λ other b. both_ways _ (nobody other) (((waits_own s h is).0 other).1 b)))
  released_retryable s h is (inr (circle, round)) = (s, is, inr (circle, round_circle level setup past waits session s (waits_own s h is) circle round))

  -- a retryable session is released
  pub retryable_released : AreWaits level setup past waits → IsRetryable level setup past session → IsReleased waits session
  retryable_released h (s, is, inl free) = inl (λ other. false_from_ne_true _ (λ there. free other (((waits_own s h is).0 other).0 there)))
  retryable_released h (s, is, inr ([], c)) = absurd c
  retryable_released h (s, is, inr (first ∷ rest, c)) =
      inr (first ∷ rest, (c.0, circle_walk level setup past waits session s (waits_own s h is) (inr is) first rest c, c.1))

-- two lists of which neither comes after the other are one
neither_after : (ns ms : List ℕ) → NotAfter ns ms → NotAfter ms ns → ns ≡ ms
neither_after [] [] h k = refl
neither_after [] (m ∷ ms) h k = absurd k
neither_after (n ∷ ns) [] h k = absurd h
neither_after (n ∷ ns) (m ∷ ms) h k = at (neither_after ns ms) h k
  where
    at : (NotAfter ns ms → NotAfter ms ns → ns ≡ ms) → (n < m) ⊎ ((n ≡ m) × NotAfter ns ms) → (m < n) ⊎ ((m ≡ n) × NotAfter ms ns) → n ∷ ns ≡ m ∷ ms
    at rest (inl less) (inl more) = absurd (omega arith)
    at rest (inl less) (inr (same, k)) = absurd (omega arith)
    at rest (inr (same, h)) (inl more) = absurd (omega arith)
    at rest (inr (same, h)) (inr (alike, k)) = ap (λ x. x ∷ ns) same ∙ ap (λ xs. m ∷ xs) (rest h k)

pub one_least_circle : (level : Level) (setup : Table) (past : Past) (session : ℕ) (s : Statement) (circle other : List ℕ) → IsLeastCircle level setup past session s circle
    → IsLeastCircle level setup past session s other → circle ≡ other
one_least_circle level setup past session s circle other h k = neither_after circle other (h.least other k.is_circle back) (k.least circle h.is_circle same)
  where
    same : length circle ≡ length other
    same = omega (arith, h.shortest other k.is_circle, k.shortest circle h.is_circle)

    back : length other ≡ length circle
    back = omega (arith, same)
