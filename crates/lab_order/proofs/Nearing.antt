-- Paths on which each node is the least that is a step nearer to the goal.
use Rattle.std.{proofs.{Common.{◌≡◌, ◌⊎◌, inl, inr, ℕ, suc, ◌+◌, ◌<◌, ◌≤◌, refl, sym, ap, subst, ◌∙◌, arith, List, [], ◌∷◌, ◌++◌, length}, lemmas.Bool.{cases_lt}}, specs.Prelude.{IsTrue, Option, Some}}
use Rattle.lab_order.{specs.{Arrows.{Arrows, has_arrow}, Least.{NotAfter, IsLeast}, Path.{Leads, IsPath, IsShortestPath}, Steps.{steps_of, IsLeastNearer, LeadsNearer, IsNearerPath}}, proofs.Layers.{AreSteps, near, no_shorter}}

-- such a path with one step more
pub still_nearer : (graph : Arrows) (notes : List (Option ℕ)) (from at : ℕ) (path new : List ℕ) (next : ℕ) → new ≡ path ++ next ∷ [] → IsNearerPath graph notes from at path
    → IsLeastNearer graph notes at next → IsNearerPath graph notes from next new
still_nearer graph notes from at path new next pushed h step = subst (IsNearerPath graph notes from next) (sym pushed) (on path h)
  where
    leads : (a : ℕ) (ns : List ℕ) → LeadsNearer graph notes a ns at → LeadsNearer graph notes a (ns ++ next ∷ []) next
    leads a [] same = (subst (λ k. IsLeastNearer graph notes k next) (sym same) step, refl)
    leads a (n ∷ ns) (first, rest) = (first, leads n ns rest)

    on : (ns : List ℕ) → IsNearerPath graph notes from at ns → IsNearerPath graph notes from next (ns ++ next ∷ [])
    on [] p = absurd p
    on (n ∷ ns) (same, l) = (same, leads n ns l)

-- a number that is noted is one number
noted_once : (o : Option ℕ) (a b : ℕ) → o ≡ Some a → o ≡ Some b → a ≡ b
noted_once o a b h k = let e : Some a ≡ Some b = sym h ∙ k in cc

module _ (graph : Arrows) (goal last : ℕ) (notes : List (Option ℕ)) (layer : List ℕ) (h : AreSteps graph goal last notes layer) where
  -- where a node is a step further than the least that is nearer, no path of so few arrows goes on to a lesser one
  no_lesser : (node next other steps : ℕ) (ns : List ℕ) → (step : IsLeastNearer graph notes node next) → steps_of notes node ≡ Some steps → IsTrue (has_arrow graph node other)
      → Leads graph other ns goal → suc (length ns) ≤ steps → (other < next → ⊥) × (step.steps ≡ length ns) × (steps_of notes other ≡ Some step.steps)
  no_lesser node next other steps ns step noted arrow leads few = at (near graph goal last notes layer h other ns leads)
    where
      one : steps ≡ suc step.steps
      one = noted_once (steps_of notes node) steps (suc step.steps) noted step.here

      most : steps ≤ last
      most = h.up_to node steps noted

      at : ((k : ℕ) × (steps_of notes other ≡ Some k) × (k ≤ length ns)) ⊎ (last ≤ length ns) → (other < next → ⊥) × (step.steps ≡ length ns) × (steps_of notes other ≡ Some step.steps)
      at (inr past) = absurd (omega (arith, few, most))
      at (inl (k, is, le)) =
          let less : k < last = omega (arith, few, most) in
          let c : (m : ℕ) × (steps_of notes node ≡ Some m) × (m ≤ suc k) = h.closed node other k is less arrow in
          let e : c.0 ≡ steps = noted_once (steps_of notes node) c.0 steps c.1 noted in
          let same : k ≡ step.steps = omega (arith, few, one, c.2) in
          let there : steps_of notes other ≡ Some step.steps = is ∙ ap Some same in
          (λ lt. step.least other lt arrow there, omega (arith, few, one), there)

  -- it doesn't come after another with so few arrows
  pub nearer_not_after : (from steps : ℕ) (ns ms : List ℕ) → steps_of notes from ≡ Some steps → LeadsNearer graph notes from ns goal → Leads graph from ms goal → length ms ≤ steps
      → NotAfter ns ms
  nearer_not_after from steps [] ms noted nearer leads few = tt
  nearer_not_after from steps (n ∷ ns) [] noted nearer same few =
      let e : suc nearer.0.steps ≡ 0 = noted_once (steps_of notes from) (suc nearer.0.steps) 0 nearer.0.here (ap (steps_of notes) same ∙ h.at_goal) in
      absurd (omega arith)
  nearer_not_after from steps (n ∷ ns) (m ∷ ms) noted nearer leads few =
      at (λ les few. nearer_not_after n nearer.0.steps ns ms nearer.0.there nearer.1 les few) (cases_lt m n) (cases_lt n m)
    where
      known : (m < n → ⊥) × (nearer.0.steps ≡ length ms) × (steps_of notes m ≡ Some nearer.0.steps)
      known = no_lesser from n m steps ms nearer.0 noted leads.0 leads.1 few

      at : (Leads graph n ms goal → length ms ≤ nearer.0.steps → NotAfter ns ms) → (m < n) ⊎ (n ≤ m) → (n < m) ⊎ (m ≤ n) → (n < m) ⊎ ((n ≡ m) × NotAfter ns ms)
      at rest (inl less) any = absurd (known.0 less)
      at rest (inr le) (inl more) = inl more
      at rest (inr le) (inr ge) =
          let same : n ≡ m = omega arith in
          let e : nearer.0.steps ≡ length ms = known.1 in
          inr (same, rest (subst (λ k. Leads graph k ms goal) (sym same) leads.1) (omega arith))

  -- so it is the least of the shortest
  pub nearer_is_least : (from steps : ℕ) (path : List ℕ) → steps_of notes from ≡ Some steps → IsPath graph from goal path → length path ≡ suc steps → IsNearerPath graph notes from goal path
      → IsLeast (IsShortestPath graph from goal) path
  nearer_is_least from steps path noted is size nearer = record {
    is_one = record { is_path = is; shortest = λ other there. let le : steps + 1 ≤ length other = no_shorter graph goal last notes layer h from steps noted other there in omega (arith, size, le) };
    least = λ other there. at path nearer other there.is_path (let le : length other ≤ length path = there.shortest path is in omega (arith, size, le));
  }
    where
      at : (ns : List ℕ) → IsNearerPath graph notes from goal ns → (ms : List ℕ) → IsPath graph from goal ms → length ms ≤ suc steps → NotAfter ns ms
      at [] none ms other few = absurd none
      at ns leads [] none few = absurd none
      at (n ∷ ns) (same, leads) (m ∷ ms) (alike, others) few =
          inr (same ∙ sym alike, nearer_not_after from steps ns ms noted (subst (λ k. LeadsNearer graph notes k ns goal) same leads) (subst (λ k. Leads graph k ms goal) alike others) (omega arith))
