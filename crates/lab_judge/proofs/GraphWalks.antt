-- Walks along edges, and paths of the graph of these edges.
use Rattle.std.{proofs.Common.{◌≡◌, ℕ, Bool, true, List, [], ◌∷◌, map, refl, ap, subst}}
use Rattle.lab_order.specs.{Arrows.{Arrows, IsArrow}, Order.{position, IsOrder}, Path.{Leads}}
use Rattle.lab_history.specs.History.{History}
use Rattle.lab_deps.specs.{Edges.{IsEdge}, KindsBetween.{KindsBetween}, declared.edge.{Edge.{Edge}, Kind.{Kind}}}
use Rattle.lab_judge.{specs.{Graphs.{IsGraphOf, IsNetOf}, Openings.{IsClosedOf, LeadsBack}, Phenomena.{IsWalk}}, proofs.{ClosedWalks.{Through, all_through, none_closed}, Nets.{tie_of}}}

module _ {h : History} {allowed : Kind → Bool} {net : KindsBetween} (of : IsNetOf h allowed net) (graph : Arrows) (is : IsGraphOf allowed net graph) where
  -- an edge of an allowed kind is an arrow
  arrow_of : (e : Edge) → IsEdge h e → allowed e.kind ≡ true → IsArrow graph (position net.numbers e.from) (position net.numbers e.to)
  arrow_of e edge kind = (is.arrows (position net.numbers e.from) (position net.numbers e.to)).1 (tie_of of e edge kind)

  -- so where there is an order, no walk of allowed kinds is closed
  pub order_excludes : (order : List ℕ) → IsOrder graph order → (ws : List Edge) → IsClosedOf h allowed ws → ⊥
  order_excludes order ordered ws (closed, none) =
      none_closed h (λ n. position order (position net.numbers n)) allowed
      (λ e edge kind. ordered.forward (position net.numbers e.from) (position net.numbers e.to) (arrow_of e edge kind)) ws closed (all_through allowed ws none)

  -- a walk along edges of allowed kinds is a path
  walk_leads : (from : ℕ) (ws : List Edge) (to : ℕ) → IsWalk h from ws to → Through allowed ws
      → Leads graph (position net.numbers from) (map (λ e. position net.numbers e.to) ws) (position net.numbers to)
  walk_leads from [] to same through = ap (position net.numbers) same
  walk_leads from (e ∷ ws) to (edge, begins, rest) (kind, through) =
      (subst (λ n. IsArrow graph (position net.numbers n) (position net.numbers e.to)) begins (arrow_of e edge kind), walk_leads e.to ws to rest through)

  -- and from where an edge ends to where it begins, a path back
  pub leads_back : (e : Edge) (ws : List Edge) → IsWalk h e.to ws e.from → Through allowed ws → LeadsBack graph net.numbers e
  leads_back e ws walk through = (position net.numbers e.to ∷ map (λ w. position net.numbers w.to) ws, (refl, walk_leads e.to ws e.from walk through))
