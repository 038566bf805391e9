-- Chains of steps: along paths and rings, and step by step.
use Rattle.std.proofs.{Common.{◌≡◌, ℕ, suc, ◌+◌, ◌-◌, ◌<◌, List, [], ◌∷◌, ◌++◌, length, get_or, take, drop, refl, sym, ap, ◌∙◌, subst, arith}, lemmas.List.{take_all}, Math.Seq.{drop-cons}}
use Rattle.lab_order.specs.{Arrows.{Arrows, IsArrow}, Path.{Leads}, Trails.{IsTrailBy, IsRing, IsChainBy}}
use Rattle.lab_judge.specs.{Graphs.{last_of}}

module _ (IsStep : ℕ → ℕ → Type 0) where
  -- the next step of a way, and the rest
  pub step : (at i : ℕ) (way : List ℕ) → i < length way → IsChainBy IsStep at (drop i way) → IsStep at (get_or way i 0) × IsChainBy IsStep (get_or way i 0) (drop (i + 1) way)
  step at i way lt chain =
      let one : suc i ≡ i + 1 = omega arith in
      subst (IsChainBy IsStep at) (drop-cons way i 0 lt ∙ ap (λ k. get_or way i 0 ∷ drop k way) one) chain

  -- a trail is a chain to its end
  pub trail_chain : (from : ℕ) (ns : List ℕ) (to : ℕ) → IsTrailBy IsStep from ns to → IsChainBy IsStep from (ns ++ to ∷ [])
  trail_chain from [] to s = (s, tt)
  trail_chain from (n ∷ ns) to (s, rest) = (s, trail_chain n ns to rest)

  -- of a ring that is closed by its first: what is behind the first
  pub ring_parts : (circle : List ℕ) → IsRing IsStep circle → (first : ℕ) (shown : List ℕ) → first ≡ get_or circle 0 first → shown ≡ circle ++ first ∷ []
      → (ns : List ℕ) × (circle ≡ first ∷ ns) × (take (length shown - 1) (drop 1 shown) ≡ ns ++ first ∷ [])
  ring_parts [] ring first shown at closed = absurd ring
  ring_parts (n ∷ ns) ring first shown at closed =
      (ns, ap (λ k. k ∷ ns) (sym at), ap (λ l. take (length l - 1) (drop 1 l)) closed ∙ take_all (length (n ∷ (ns ++ first ∷ [])) - 1) (ns ++ first ∷ []) (omega arith))

  -- a path along arrows that are steps is a chain
  pub path_chain : (graph : Arrows) → ((a b : ℕ) → IsArrow graph a b → IsStep a b) → (from : ℕ) (ns : List ℕ) (to : ℕ) → Leads graph from ns to → IsChainBy IsStep from ns
  path_chain graph steps from [] to same = tt
  path_chain graph steps from (n ∷ ns) to (arrow, rest) = (steps from n arrow, path_chain graph steps n ns to rest)

-- the last node of a path is where it leads to
pub path_ends : (graph : Arrows) (from : ℕ) (ns : List ℕ) (to : ℕ) → Leads graph from ns to → last_of from ns ≡ to
path_ends graph from [] to same = same
path_ends graph from (n ∷ ns) to (arrow, rest) = path_ends graph n ns to rest

pub last_pushed : (from : ℕ) (ns : List ℕ) (to : ℕ) → last_of from (ns ++ to ∷ []) ≡ to
last_pushed from [] to = refl
last_pushed from (n ∷ ns) to = last_pushed n ns to
