-- Of each kind of due walk a history has one.
use Rattle.std.{proofs.{Common.{◌≡◌, ℕ, Bool, false, List, [], ◌∷◌, refl, sym, ap, ◌∙◌, subst}, lemmas.{Bool.{false≢true}, Map.Keys.{sorted_from_strictly_increasing}}}, specs.{Ordering.{is_eq, is_lt, ordering_reverse}, declared.cmp.Ordering.{Ordering, TheVariants.{Less, Equal, Greater}}}}
use Rattle.lab_order.{specs.Arrows.{Arrows}, proofs.{BackCircles.{one_of_graph}, SameGraphs.{HasArrowsOf, back_circle_in}}}
use Rattle.lab_history.specs.History.{History}
use Rattle.lab_deps.{proofs.{EdgeOrders.{edges_total, same_edge}, Places.{times_count}}, specs.{EdgeOrder.{edge_cmp}, declared.edge.{Edge.{Edge}, Kind.{Kind}}}}
use Rattle.lab_judge.{specs.LeastWalks.{AreCommitted, IsEdgeGraph, IsLeastEdge, IsBackWalk, GoesAlong, GoesRound}, proofs.Numbers.{one_rising}}

-- edges of which neither is less are one
pub neither_less : (e f : Edge) → is_lt (edge_cmp e f) ≡ false → is_lt (edge_cmp f e) ≡ false → e ≡ f
neither_less e f p q = at (edge_cmp e f) refl p
  where
    at : (o : Ordering) → edge_cmp e f ≡ o → is_lt o ≡ false → e ≡ f
    at Less is less = absurd (false≢true (sym less))
    at Equal is less = same_edge e f (ap is_eq is)
    at Greater is less = absurd (false≢true (sym q ∙ ap is_lt (edges_total.antisymm f e ∙ ap ordering_reverse is)))

module _ (h : History) (a : Kind → Bool) where
  pub one_least_edge : (m n : ℕ) (e f : Edge) → IsLeastEdge h a m n e → IsLeastEdge h a m n f → e ≡ f
  one_least_edge m n e f l k = neither_less e f (k.least e l.edge l.from l.to l.kind) (l.least f k.edge k.from k.to k.kind)

  -- so there is one walk along nodes
  pub one_along : (txns : List ℕ) (from : ℕ) (way : List ℕ) (es fs : List Edge) → GoesAlong h a txns from way es → GoesAlong h a txns from way fs → es ≡ fs
  one_along txns from [] [] [] g k = refl
  one_along txns from (n ∷ way) (e ∷ es) (f ∷ fs) g k = ap (λ x. x ∷ es) (one_least_edge _ _ e f g.0 k.0) ∙ ap (λ xs. f ∷ xs) (one_along txns n way es fs g.1 k.1)
  one_along txns from [] (e ∷ es) fs g k = absurd g
  one_along txns from (n ∷ way) [] fs g k = absurd g
  one_along txns from way es fs g k = absurd k

  pub one_round : (txns circle : List ℕ) (es fs : List Edge) → GoesRound h a txns circle es → GoesRound h a txns circle fs → es ≡ fs
  one_round txns [] es fs g k = absurd g
  one_round txns (n ∷ way) es fs g k = one_along txns n _ es fs g k

module _ (h : History) where
  -- the committed transactions by rising number are one list
  pub one_committed : (ns ms : List ℕ) → AreCommitted h ns → AreCommitted h ms → ns ≡ ms
  one_committed ns ms c d =
      one_rising ns ms (sorted_from_strictly_increasing ns c.rising) (sorted_from_strictly_increasing ms d.rising)
      (λ n. times_count n ns ∙ c.each_once n ∙ sym (d.each_once n) ∙ sym (times_count n ms))

  module _ (a : Kind → Bool) where
    -- graphs of the same edges have the same arrows
    pub same_arrows : (txns : List ℕ) (g k : Arrows) → IsEdgeGraph h a txns g → IsEdgeGraph h a txns k → HasArrowsOf k g
    same_arrows txns g k i j p q arrow = (j.arrows p q).1 ((i.arrows p q).0 arrow)

    pub one_back_walk : (es fs : List Edge) → IsBackWalk h a es → IsBackWalk h a fs → es ≡ fs
    one_back_walk es fs w v =
        let txns : w.txns ≡ v.txns = one_committed w.txns v.txns w.committed v.committed in
        let edges : IsEdgeGraph h a w.txns v.graph = subst (λ ns. IsEdgeGraph h a ns v.graph) (sym txns) v.edges in
        let circles : w.circle ≡ v.circle
        = one_of_graph v.graph w.circle v.circle
        (back_circle_in w.graph v.graph (same_arrows w.txns w.graph v.graph w.edges edges) (same_arrows w.txns v.graph w.graph edges w.edges) w.circle w.back) v.back in
        let round : GoesRound h a w.txns w.circle fs = subst (λ c. GoesRound h a w.txns c fs) (sym circles) (subst (λ ns. GoesRound h a ns v.circle fs) (sym txns) v.round) in
        one_round h a w.txns w.circle es fs w.round round
