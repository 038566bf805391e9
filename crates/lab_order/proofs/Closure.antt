-- Sets of the nodes that lead to each node, made by paths through one node more at a time.
use Rattle.std.{proofs.{Common.{◌≡◌, ◌⊎◌, inl, inr, ℕ, ◌+◌, ◌<◌, ◌≤◌, ◌==◌, refl, sym, subst, ◌∙◌, arith, Bool, true, ◌||◌, ◌&&◌, List, [], ◌∷◌, ◌++◌}, lemmas.Bool.{or_cases, or_left, or_right, and_parts, and_from, cases_lt, eqb-true, eq-eqb}}, specs.Prelude.{◌↔◌, IsTrue}}
use Rattle.lab_order.specs.{Arrows.{Arrows, nodes_of, has_arrow, IsGraph}, Path.{Leads, Reaches}}

module _ (graph : Arrows) where
  -- a way on from where another ends
  leads_on : (from : ℕ) (ns : List ℕ) (mid : ℕ) (ms : List ℕ) (to : ℕ) → Leads graph from ns mid → Leads graph mid ms to → Leads graph from (ns ++ ms) to
  leads_on from [] mid ms to same rest = subst (λ k. Leads graph k ms to) (sym same) rest
  leads_on from (n ∷ ns) mid ms to (arrow, more) rest = (arrow, leads_on n ns mid ms to more rest)

  -- so a path and a path on from its end are one
  pub reaches_on : (a b c : ℕ) → Reaches graph a b → Reaches graph b c → Reaches graph a c
  reaches_on a b c ([], none) q = absurd none
  reaches_on a b c (n ∷ ns, p) ([], none) = absurd none
  reaches_on a b c (n ∷ ns, p) (m ∷ ms, q) = (n ∷ (ns ++ ms), (p.0, leads_on n ns b ms c p.1 (subst (λ k. Leads graph k ms c) q.0 q.1)))

  -- a node reaches itself
  pub reaches_self : (a : ℕ) → Reaches graph a a
  reaches_self a = (a ∷ [], (refl, refl))

  -- and that to which it has an arrow
  pub reaches_next : (a b : ℕ) → IsTrue (has_arrow graph a b) → Reaches graph a b
  reaches_next a b arrow = (a ∷ b ∷ [], (refl, (arrow, refl)))

-- what is told of leading is so, has the arrows, and is whole through the nodes below a number
pub record AreWaysBelow (graph : Arrows) (k : ℕ) (leads : ℕ → ℕ → Bool) : Type 0 where
  pub sound : (a b : ℕ) → b < nodes_of graph → leads a b ≡ true → Reaches graph a b
  pub own : (a : ℕ) → a < nodes_of graph → leads a a ≡ true
  pub arrows : (a b : ℕ) → b < nodes_of graph → IsTrue (has_arrow graph a b) → leads a b ≡ true
  pub through : (a m b : ℕ) → m < k → b < nodes_of graph → leads a m ≡ true → leads m b ≡ true → leads a b ≡ true

-- where it tells of nodes themselves and of the arrows alone, it tells of the ways through none
pub at_first : (graph : Arrows) (leads : ℕ → ℕ → Bool) → ((a b : ℕ) → b < nodes_of graph → leads a b ≡ (a == b || has_arrow graph a b)) → AreWaysBelow graph 0 leads
at_first graph leads is = record {
  sound = λ a b less on. elim (or_cases (a == b) (has_arrow graph a b) (sym (is a b less) ∙ on)) [
    | inl same ↦ subst (Reaches graph a) (eqb-true a b same) (reaches_self graph a)
    | inr arrow ↦ reaches_next graph a b arrow
  ];
  own = λ a less. is a a less ∙ or_left (a == a) (has_arrow graph a a) (eq-eqb a a refl);
  arrows = λ a b less arrow. is a b less ∙ or_right (a == b) (has_arrow graph a b) arrow;
  through = λ a m b none. absurd (omega (arith, none));
}

module _ (graph : Arrows) (k : ℕ) (lt : k < nodes_of graph) (old new : ℕ → ℕ → Bool) (h : AreWaysBelow graph k old)
    (is : (a b : ℕ) → b < nodes_of graph → new a b ≡ (old a b || (old k b && old a k))) where
  abbrev Was : ℕ → ℕ → Type 0
  Was a b = (old a b ≡ true) ⊎ ((old k b ≡ true) × (old a k ≡ true))

  was : (a b : ℕ) → b < nodes_of graph → new a b ≡ true → Was a b
  was a b less on = elim (or_cases (old a b) (old k b && old a k) (sym (is a b less) ∙ on)) [
    | inl here ↦ inl here
    | inr joined ↦ inr (and_parts (old k b) (old a k) joined)
  ]

  kept : (a b : ℕ) → b < nodes_of graph → old a b ≡ true → new a b ≡ true
  kept a b less on = is a b less ∙ or_left (old a b) (old k b && old a k) on

  joined : (a b : ℕ) → b < nodes_of graph → old a k ≡ true → old k b ≡ true → new a b ≡ true
  joined a b less to from = is a b less ∙ or_right (old a b) (old k b && old a k) (and_from (old k b) (old a k) from to)

  -- through a node below
  below : (a m b : ℕ) → m < k → m < nodes_of graph → b < nodes_of graph → Was a m → Was m b → new a b ≡ true
  below a m b before inside less (inl am) (inl mb) = kept a b less (h.through a m b before less am mb)
  below a m b before inside less (inl am) (inr (kb, mk)) = joined a b less (h.through a m k before lt am mk) kb
  below a m b before inside less (inr (km, ak)) (inl mb) = joined a b less ak (h.through k m b before less km mb)
  below a m b before inside less (inr (km, ak)) (inr (kb, mk)) = joined a b less ak kb

  -- and through this one
  to_it : (a : ℕ) → Was a k → old a k ≡ true
  to_it a (inl here) = here
  to_it a (inr (kk, ak)) = ak

  from_it : (b : ℕ) → Was k b → old k b ≡ true
  from_it b (inl here) = here
  from_it b (inr (kb, kk)) = kb

  at_it : (a m b : ℕ) → m ≡ k → b < nodes_of graph → new a m ≡ true → new m b ≡ true → new a b ≡ true
  at_it a m b same less am mb =
      joined a b less (to_it a (was a k lt (subst (λ j. new a j ≡ true) same am))) (from_it b (was k b less (subst (λ j. new j b ≡ true) same mb)))

  -- where each takes over what the next node has, the ways through that one are there too
  pub one_more : AreWaysBelow graph (k + 1) new
  one_more = record {
    sound = λ a b less on. elim (was a b less on) [
      | inl here ↦ h.sound a b less here
      | inr parts ↦ reaches_on graph a k b (h.sound a k lt parts.1) (h.sound k b less parts.0)
    ];
    own = λ a less. kept a a less (h.own a less);
    arrows = λ a b less arrow. kept a b less (h.arrows a b less arrow);
    through = λ a m b less inside am mb. elim (cases_lt m k) [
      | inl before ↦
          let within : m < nodes_of graph = omega (arith, before, lt) in
          below a m b before within inside (was a m within am) (was m b inside mb)
      | inr past ↦ let same : m ≡ k = omega (arith, less, past) in at_it a m b same inside am mb
    ];
  }

-- whole through all nodes, it tells of each path
module _ (graph : Arrows) (g : IsGraph graph) (k : ℕ) (all : nodes_of graph ≤ k) (leads : ℕ → ℕ → Bool) (h : AreWaysBelow graph k leads) where
  along : (from : ℕ) (ns : List ℕ) (to : ℕ) → to < nodes_of graph → Leads graph from ns to → leads from to ≡ true
  along from [] to less same = subst (λ k. leads k to ≡ true) (sym same) (h.own to less)
  along from (n ∷ []) to less (arrow, same) = subst (λ k. leads from k ≡ true) same (h.arrows from n (subst (λ k. k < nodes_of graph) (sym same) less) arrow)
  along from (n ∷ m ∷ ms) to less (arrow, (next, rest)) =
      let inside : n < nodes_of graph = g.within n m next in
      h.through from n to (omega (arith, inside, all)) less (h.arrows from n inside arrow) (along n (m ∷ ms) to less (next, rest))

  pub are_exact : (from to : ℕ) → to < nodes_of graph → IsTrue (leads from to) ↔ Reaches graph from to
  are_exact from to less = (h.sound from to less, told)
    where
      told : Reaches graph from to → leads from to ≡ true
      told ([], none) = absurd none
      told (n ∷ ns, (is, way)) = subst (λ k. leads k to ≡ true) is (along n ns to less way)
