-- Layers of those from which walks lead to a goal, by how many stand between.
use Rattle.lab_engine.{proofs.{Common.{and_from, and_parts, ap, append_assoc, arith, both_ways, cases_eq, cases_lt, eq-eqb, eqb-true, false, get_or, get_or-set_other, get_or-set_same, has, IfSome, inl, inr, is_some, IsRound, IsTrue, IsWalk, length, List, list_any, None, NotAfter, Option, or-false, or_left, refl, replicate, set, Some, subst, sym, waits_for, WaitsForOne, ℕ, [], ◌&&◌, ◌++◌, ◌+◌, ◌-◌, ◌<◌, ◌==◌, ◌↔◌, ◌∙◌, ◌∷◌, ◌≡◌, ◌≤◌, ◌⊎◌}, Walks.{once_few, once_walk, shortest_once}}, specs.LeastWalk.{AreLayers, IsLeastRound, IsLeastWalk, Leads}}

module _ (graph : List ℕ) (goal : ℕ) where
  -- those that wait for the goal
  first_layer : (only set : ℕ) → ((n : ℕ) → has only n ≡ list_any (λ k. k == n) (goal ∷ [])) → ((s : ℕ) → IsTrue (has set s) ↔ WaitsForOne graph only s) → (s : ℕ) → IsTrue (has set s) ↔ Leads graph 0 s goal
  first_layer only set is waiters s = (to, from)
    where
      to : IsTrue (has set s) → Leads graph 0 s goal
      to there =
          let w = (waiters s).0 there in
          ([], refl, subst (λ k. IsTrue (waits_for graph s k)) (sym (eqb-true goal w.0 (sym (or-false (goal == w.0)) ∙ sym (is w.0) ∙ w.2))) w.1)

      from : Leads graph 0 s goal → IsTrue (has set s)
      from ([], size, walk) = (waiters s).1 (goal, walk, is goal ∙ or_left _ _ (eq-eqb goal goal refl))
      from (next ∷ rest, size, walk) = absurd (omega (arith, size))

  -- those that wait for one of a layer
  next_layer : (between last new : ℕ) → ((s : ℕ) → IsTrue (has last s) ↔ Leads graph between s goal) → ((s : ℕ) → IsTrue (has new s) ↔ WaitsForOne graph last s)
      → (s : ℕ) → IsTrue (has new s) ↔ Leads graph (between + 1) s goal
  next_layer between last new h waiters s = (to, from)
    where
      to : IsTrue (has new s) → Leads graph (between + 1) s goal
      to there =
          let w = (waiters s).0 there in
          let on = (h w.0).0 w.2 in
          (w.0 ∷ on.0, omega (arith, on.1), (w.1, on.2))

      from : Leads graph (between + 1) s goal → IsTrue (has new s)
      from ([], size, walk) = absurd (omega (arith, size))
      from (next ∷ rest, size, walk) = (waiters s).1 (next, walk.0, (h next).1 (rest, omega (arith, size), walk.1))

  -- the layers before the first turn
  pub layers_first : (only first : ℕ) → ((n : ℕ) → has only n ≡ list_any (λ k. k == n) (goal ∷ [])) → ((s : ℕ) → IsTrue (has first s) ↔ WaitsForOne graph only s) → AreLayers graph goal 1 (replicate 9 first)
  layers_first only first is waiters between less s =
      subst (λ k. IsTrue (has (get_or (replicate 9 first) k 0) s) ↔ Leads graph k s goal) (omega (arith, less)) (first_layer only first is waiters s)

  -- one more turn
  pub layers_more : (layers : List ℕ) (between last new : ℕ) → length layers ≡ 9 → 1 ≤ between → between < 9 → AreLayers graph goal between layers → last ≡ get_or layers (between - 1) 0
      → ((s : ℕ) → IsTrue (has new s) ↔ WaitsForOne graph last s) → AreLayers graph goal (between + 1) (set layers between new)
  layers_more layers between last new size some less h is waiters k lt s = elim (cases_eq k between) [
    | inl same ↦
        let new_layer : IsTrue (has new s) ↔ Leads graph (between - 1 + 1) s goal =
        next_layer (between - 1) last new (subst (λ l. (t : ℕ) → IsTrue (has l t) ↔ Leads graph (between - 1) t goal) (sym is) (h (between - 1) (omega (arith, some)))) waiters s in
        let here : get_or (set layers between new) k 0 ≡ new = ap (λ x. get_or (set layers between new) x 0) same ∙ get_or-set_same layers between new 0 (omega (arith, size, less)) in
        subst (λ x. IsTrue (has x s) ↔ Leads graph k s goal) (sym here) (subst (λ x. IsTrue (has new s) ↔ Leads graph x s goal) (omega (arith, some, same)) new_layer)
    | inr apart ↦ subst (λ x. IsTrue (has x s) ↔ Leads graph k s goal) (sym (get_or-set_other layers between k new 0 apart)) (h k (search (arith, lt, apart)) s)
  ]

  -- the least step before a least walk
  step_before : (left at next : ℕ) (tail : List ℕ) → IsTrue (waits_for graph at next) → ((n : ℕ) → IsTrue (waits_for graph at n) → Leads graph left n goal → next ≤ n) → IsLeastWalk graph left next goal tail
      → IsLeastWalk graph (left + 1) at goal (next ∷ tail)
  step_before left at next tail waits chosen h = record { size = omega (arith, h.size); walk = (waits, h.walk); least = least }
    where
      least : (other : List ℕ) → IsWalk graph at other goal → length other ≡ left + 1 → NotAfter (next ∷ tail) other
      least [] walk size = absurd (omega (arith, size))
      least (m ∷ ms) (first, walk) size = compared (chosen m first (ms, omega (arith, size), walk)) (cases_lt next m)
        where
          compared : next ≤ m → (next < m) ⊎ (m ≤ next) → (next < m) ⊎ ((next ≡ m) × NotAfter tail ms)
          compared le (inl less) = inl less
          compared le (inr ge) =
              let same : next ≡ m = omega (arith, le, ge) in
              inr (same, h.least ms (subst (λ k. IsWalk graph k ms goal) (sym same) walk) (omega (arith, size)))

  -- how a list that is the front of a walk goes on from a session with so many left
  pub record GoesOn (between left at : ℕ) (front : List ℕ) : Type 0 where
    pub leads : Leads graph left at goal
    pub whole : (tail : List ℕ) → IsLeastWalk graph left at goal tail → (rest : List ℕ) × (front ++ tail ≡ goal ∷ rest) × IsLeastWalk graph between goal goal rest

  -- one step by the least in common
  pub goes_on_next : (layers : List ℕ) (between left at own common : ℕ) (front : List ℕ) → AreLayers graph goal 9 layers → left < 9 → ((n : ℕ) → has own n ≡ waits_for graph at n)
      → ((n : ℕ) → has common n ≡ (has own n && has (get_or layers left 0) n)) → GoesOn between (left + 1) at front
      → (next : ℕ) → IsTrue (has common next) → ((n : ℕ) → IsTrue (has common n) → next ≤ n) → GoesOn between left next (front ++ next ∷ [])
  goes_on_next layers between left at own common front h few on both goes next there least = record { leads = (h left few next).0 (parts next there).1; whole = whole }
    where
      parts : (n : ℕ) → IsTrue (has common n) → IsTrue (waits_for graph at n) × IsTrue (has (get_or layers left 0) n)
      parts n c = let p = and_parts (has own n) (has (get_or layers left 0) n) (sym (both n) ∙ c) in (sym (on n) ∙ p.0, p.1)

      chosen : (n : ℕ) → IsTrue (waits_for graph at n) → Leads graph left n goal → next ≤ n
      chosen n waits leads = least n (both n ∙ and_from _ _ (on n ∙ waits) ((h left few n).1 leads))

      whole : (tail : List ℕ) → IsLeastWalk graph left next goal tail → (rest : List ℕ) × ((front ++ next ∷ []) ++ tail ≡ goal ∷ rest) × IsLeastWalk graph between goal goal rest
      whole tail w =
          let all = goes.whole (next ∷ tail) (step_before left at next tail (parts next there).0 chosen w) in
          (all.0, append_assoc front (next ∷ []) tail ∙ all.1, all.2)

  -- there is somebody in common
  pub some_common : (layers : List ℕ) (between left at own common : ℕ) (front : List ℕ) → AreLayers graph goal 9 layers → left < 9 → ((n : ℕ) → has own n ≡ waits_for graph at n)
      → ((n : ℕ) → has common n ≡ (has own n && has (get_or layers left 0) n)) → GoesOn between (left + 1) at front → ((n : ℕ) → has common n ≡ false) → ⊥
  some_common layers between left at own common front h few on both goes none = by goes.leads
    where
      by : Leads graph (left + 1) at goal → ⊥
      by ([], size, walk) = absurd (omega (arith, size))
      by (next ∷ rest, size, walk) = both_ways _ (none next) (both next ∙ and_from _ _ (on next ∙ walk.0) ((h left few next).1 (rest, omega (arith, size), walk.1)))

  module _ (layers : List ℕ) (h : AreLayers graph goal 9 layers) where
    -- where no layer has the goal, no walk leads back to it
    pub no_round : ((k : ℕ) → k < 9 → has (get_or layers k 0) goal ≡ false) → (rest : List ℕ) → ¬ IsWalk graph goal rest goal
    no_round none rest walk =
        let once = once_walk graph goal goal rest walk in
        let few = once_few graph goal goal once.0 once.1 once.2 in
        both_ways _ (none (length once.0) few) ((h (length once.0) few goal).1 (once.0, refl, once.1))

    -- no walk back to the goal has fewer between than the first layer that has it
    pub shortest_round : (between : ℕ) → between < 9 → ((k : ℕ) → k < between → has (get_or layers k 0) goal ≡ false) → (rest : List ℕ) → IsWalk graph goal rest goal → between ≤ length rest
    shortest_round between few first rest walk = elim (cases_lt (length rest) between) [
      | inl less ↦ absurd (both_ways _ (first (length rest) less) ((h (length rest) (omega (arith, less, few)) goal).1 (rest, refl, walk)))
      | inr le ↦ le
    ]

    -- where there is a cycle, a layer has the goal
    pub round_found : (found : Option ℕ) → (found ≡ None → (k : ℕ) → k < 9 → has (get_or layers k 0) goal ≡ false) → (circle : List ℕ) × IsRound graph goal circle → IsTrue (is_some found)
    round_found (Some between) none round = refl
    round_found None none ([], round) = absurd round
    round_found None none (first ∷ rest, round) = absurd (no_round (none refl) rest round.1)

    -- where a layer has it, there is a cycle
    pub found_round : (found : Option ℕ) → IfSome found (λ between. between < 9) → IfSome found (λ between. IsTrue (has (get_or layers between 0) goal)) → IsTrue (is_some found)
        → (circle : List ℕ) × IsRound graph goal circle
    found_round None few there some = absurd (both_ways _ refl some)
    found_round (Some between) few there some =
        let leads = (h between few goal).0 there in
        let once = once_walk graph goal goal leads.0 leads.2 in
        (goal ∷ once.0, (refl, once.1, once.2))

    -- the least walk of the least length is the least cycle
    pub least_round : (between : ℕ) (rest : List ℕ) → between < 9 → ((k : ℕ) → k < between → has (get_or layers k 0) goal ≡ false) → IsLeastWalk graph between goal goal rest
        → IsLeastRound graph goal (goal ∷ rest)
    least_round between rest few first least = record {
      round = (refl, least.walk, shortest_once graph goal goal rest least.walk (λ other walk. subst (λ n. n ≤ length other) (sym least.size) (shortest_round between few first other walk)));
      shortest = λ other walk. omega (arith, shortest_round between few first other walk, least.size);
      least = λ other walk same. inr (refl, least.least other walk (omega (arith, same, least.size)));
    }
