-- Cycles of two parts, one behind the other: nothing leads back from the second, so each is in one of them.
use Rattle.std.proofs.Common.{◌≡◌, ℕ, ◌-◌, ◌<◌, ◌≤◌, List, [], ◌∷◌, map, refl, sym, ap, ◌∙◌, subst, arith, ◌⊎◌, inl, inr}
use Rattle.lab_history.specs.History.{History}
use Rattle.lab_deps.specs.{Edges.{IsEdge}, declared.edge.Edge.{Edge}}
use Rattle.lab_judge.specs.Phenomena.{IsWalk, IsClosedWalk}
use Rattle.lab_parts.{specs.{Whole.{above_all, moved, joined}, WholeEdges.{moved_edge}}, proofs.JoinedTxns.{first_or_second, committed_below}}

-- an edge is a moved one of the second part
abbrev pub IsMoved : History → History → Edge → Type 0
IsMoved a b e = (d : Edge) × IsEdge b d × (e ≡ moved_edge a d)

-- numbers of the first part and of the second
abbrev pub Across : History → ℕ → ℕ → Type 0
Across a from to = (from < above_all a.txns) × (above_all a.txns ≤ to)

-- the edges of both are those of the first, those of the second moved, and some that lead from the first to the second
pub record Splits (a b : History) : Type 0 where
  pub first : (e : Edge) → IsEdge a e → IsEdge (joined a b) e
  pub second : (e : Edge) → IsEdge b e → IsEdge (joined a b) (moved_edge a e)
  pub each : (e : Edge) → IsEdge (joined a b) e → IsEdge a e ⊎ (IsMoved a b e ⊎ Across a e.from e.to)

-- a walk of both from a moved number is a walk of the second part, moved
pub record IsBehind (a b : History) (from : ℕ) (es : List Edge) (to : ℕ) : Type 0 where
  pub edges : List Edge
  pub end : ℕ
  pub walk : IsWalk b from edges end
  pub edges_are : es ≡ map (moved_edge a) edges
  pub end_is : to ≡ moved a end

-- a cycle of the second part, moved
abbrev pub IsMovedCycle : History → History → List Edge → Type 0
IsMovedCycle a b es = (ds : List Edge) × IsClosedWalk b ds × (es ≡ map (moved_edge a) ds)

module _ (a b : History) (splits : Splits a b) where
  -- an edge of the first part is between its numbers
  from_below : (e : Edge) → IsEdge a e → e.from < above_all a.txns
  from_below e edge = committed_below a e.from edge.0

  -- ---- walks of the parts are walks of both
  first_walk : (from : ℕ) (es : List Edge) (to : ℕ) → IsWalk a from es to → IsWalk (joined a b) from es to
  first_walk from [] to w = w
  first_walk from (e ∷ es) to w = (splits.first e w.0, w.1, first_walk e.to es to w.2)

  second_walk : (from : ℕ) (es : List Edge) (to : ℕ) → IsWalk b from es to → IsWalk (joined a b) (moved a from) (map (moved_edge a) es) (moved a to)
  second_walk from [] to w = ap (moved a) w
  second_walk from (e ∷ es) to w = (splits.second e w.0, ap (moved a) w.1, second_walk e.to es to w.2)

  pub first_closed : (es : List Edge) → IsClosedWalk a es → IsClosedWalk (joined a b) es
  first_closed [] w = w
  first_closed (e ∷ es) w = first_walk e.from (e ∷ es) e.from w

  pub second_closed : (es : List Edge) → IsClosedWalk b es → IsClosedWalk (joined a b) (map (moved_edge a) es)
  second_closed [] w = w
  second_closed (e ∷ es) w = second_walk e.from (e ∷ es) e.from w

  -- ---- from the second part no walk leads back
  stays_behind : (from : ℕ) (es : List Edge) (to : ℕ) → IsWalk (joined a b) (moved a from) es to → IsBehind a b from es to
  stays_behind from [] to w = record { edges = []; end = from; walk = refl; edges_are = refl; end_is = sym w }
  stays_behind from (e ∷ es) to w = at (λ n v. stays_behind n es to v) (splits.each e w.0)
    where
      at : ((n : ℕ) → IsWalk (joined a b) (moved a n) es to → IsBehind a b n es to) → IsEdge a e ⊎ (IsMoved a b e ⊎ Across a e.from e.to) → IsBehind a b from (e ∷ es) to
      at later (inl edge) = absurd (omega (arith, from_below e edge, w.1))
      at later (inr (inl (d, edge, is))) =
          let rest : IsBehind a b d.to es to = later d.to (subst (λ e. IsWalk (joined a b) e.to es to) is w.2) in
          let same : e.from ≡ moved a d.from = ap (λ e. e.from) is in
          record {
            edges = d ∷ rest.edges;
            end = rest.end;
            walk = (edge, omega (arith, same, w.1), rest.walk);
            edges_are = ap (λ e. e ∷ es) is ∙ ap (λ es. moved_edge a d ∷ es) rest.edges_are;
            end_is = rest.end_is;
          }
      at later (inr (inr across)) = absurd (omega (arith, across.0, w.1))

  ends_behind : (from : ℕ) (es : List Edge) (to : ℕ) → above_all a.txns ≤ from → IsWalk (joined a b) from es to → above_all a.txns ≤ to
  ends_behind from es to le w =
      let same : from ≡ moved a (from - above_all a.txns) = omega (arith, le) in
      let behind : IsBehind a b (from - above_all a.txns) es to = stays_behind (from - above_all a.txns) es to (subst (λ n. IsWalk (joined a b) n es to) same w) in
      let end : to ≡ moved a behind.end = behind.end_is in
      omega (arith, end)

  -- so a walk that ends in the first part is a walk of it
  stays_first : (from : ℕ) (es : List Edge) (to : ℕ) → to < above_all a.txns → IsWalk (joined a b) from es to → IsWalk a from es to
  stays_first from [] to less w = w
  stays_first from (e ∷ es) to less w = at (stays_first e.to es to less w.2) (splits.each e w.0)
    where
      not_behind : above_all a.txns ≤ e.to → ⊥
      not_behind le = let end : above_all a.txns ≤ to = ends_behind e.to es to le w.2 in omega (arith, end, less)

      at : IsWalk a e.to es to → IsEdge a e ⊎ (IsMoved a b e ⊎ Across a e.from e.to) → IsWalk a from (e ∷ es) to
      at rest (inl edge) = (edge, w.1, rest)
      at rest (inr (inl (d, edge, is))) = absurd (not_behind (let same : e.to ≡ moved a d.to = ap (λ e. e.to) is in omega (arith, same)))
      at rest (inr (inr across)) = absurd (not_behind across.1)

  -- a walk of the second part whose image comes back to where it begins is a cycle
  close : (from : ℕ) (e : Edge) (es : List Edge) → e.from ≡ moved a from → (ds : List Edge) (end : ℕ) → IsWalk b from ds end → e ∷ es ≡ map (moved_edge a) ds → e.from ≡ moved a end
      → IsMovedCycle a b (e ∷ es)
  close from e es begins [] end w same back = absurd (cc)
  close from e es begins (d ∷ ds) end w same back =
      let first : d.from ≡ from = w.1 in
      let round : end ≡ d.from = omega (arith, begins, back, first) in
      (d ∷ ds, (w.0, refl, subst (λ n. IsWalk b d.to ds n) round w.2), same)

  -- each cycle is one of the first part, or one of the second
  pub each_closed : (es : List Edge) → IsClosedWalk (joined a b) es → IsClosedWalk a es ⊎ IsMovedCycle a b es
  each_closed [] w = absurd w
  each_closed (e ∷ es) w = at (first_or_second a b e.from)
    where
      at : (e.from < above_all a.txns) ⊎ ((m : ℕ) × (e.from ≡ moved a m)) → IsClosedWalk a (e ∷ es) ⊎ IsMovedCycle a b (e ∷ es)
      at (inl less) = inl (stays_first e.from (e ∷ es) e.from less w)
      at (inr (m, is)) =
          let behind : IsBehind a b m (e ∷ es) e.from = stays_behind m (e ∷ es) e.from (subst (λ n. IsWalk (joined a b) n (e ∷ es) e.from) is w) in
          inr (close m e es is behind.edges behind.end behind.walk behind.edges_are behind.end_is)
