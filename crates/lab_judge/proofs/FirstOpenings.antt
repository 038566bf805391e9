-- The first edge that opens a walk that leads back.
use Rattle.std.{proofs.{Common.{◌≡◌, ℕ, ◌<◌, Bool, false, Some, length, inl, inr, refl, sym, ap, ◌∙◌, subst, arith}, lemmas.{Bool.{cases_order}, Option.{same_Some}}}, specs.{Prelude.{slice_get}, Cmp.{nat_cmp_is}, Ordering.{is_lt, nat_cmp, ordering_then}, declared.cmp.Ordering.{Ordering, TheVariants.{Equal, Greater}}}}
use Rattle.lab_table.specs.Row.{row_cmp}
use Rattle.lab_order.specs.{Arrows.{Arrows}, Order.{position}, Path.{Reaches}}
use Rattle.lab_history.specs.History.{History}
use Rattle.lab_deps.specs.{Edges.{IsEdge}, EdgeOrder.{kind_place, edge_cmp}, KindSets.{is_any}, KindsBetween.{KindsBetween}, declared.edge.{Edge.{Edge}, Kind.{Kind}}}
use Rattle.lab_judge.{specs.{Graphs.{Tie, IsLeastTie, IsNetOf}, LeastWalks.{IsFirstOpening}, Openings.{IsOpening}}, proofs.{Lists.{of_both}, Nets.{rises, node_within, stands_at, tie_of, net_for}, Numbers.{read, at_its_place}}}

-- how edges compare by kind and row, and by these behind their ends
abbrev by_kind : Edge → Edge → Ordering
by_kind f e = ordering_then (nat_cmp (kind_place f.kind) (kind_place e.kind)) (row_cmp f.row e.row)

abbrev by_end : Edge → Edge → Ordering
by_end f e = ordering_then (nat_cmp f.to e.to) (by_kind f e)

-- an edge that begins later isn't less
later_from : (e f : Edge) → e.from < f.from → is_lt (edge_cmp f e) ≡ false
later_from e f less = ap (λ o. is_lt (ordering_then o (by_end f e))) (sym (nat_cmp_is f.from e.from Greater less))

-- nor one that ends later
later_to : (e f : Edge) → e.from ≡ f.from → e.to < f.to → is_lt (edge_cmp f e) ≡ false
later_to e f same less =
    ap (λ o. is_lt (ordering_then o (by_end f e))) (sym (nat_cmp_is f.from e.from Equal (sym same))) ∙ ap (λ o. is_lt (ordering_then o (by_kind f e))) (sym (nat_cmp_is f.to e.to Greater less))

module _ {h : History} {net : KindsBetween} (of : IsNetOf h is_any net) (opening : Kind → Bool) (graph : Arrows) (p q : ℕ)
    (before : (a b : ℕ) → a < p → Reaches graph b a → Tie opening net a b → ⊥) (next : (b : ℕ) → b < q → Reaches graph b p → Tie opening net p b → ⊥)
    (back : Reaches graph q p) (e : Edge) (l : IsLeastTie opening net p q e) where
  from_is : position net.numbers e.from ≡ p
  from_is = at_its_place net.numbers of.committed.rising p e.from l.from

  to_is : position net.numbers e.to ≡ q
  to_is = at_its_place net.numbers of.committed.rising q e.to l.to

  -- where a number stands in place of that of a node, a greater node has a greater one
  greater : (a n m : ℕ) → slice_get net.numbers a ≡ Some n → a < position net.numbers m → slice_get net.numbers (position net.numbers m) ≡ Some m → position net.numbers m < length net.numbers → n < m
  greater a n m here less there within =
      omega (arith, rises net.numbers of.committed.rising a (position net.numbers m) less within, read net.numbers a n here, read net.numbers (position net.numbers m) m there)

  first : (f : Edge) → IsEdge h f → IsOpening opening graph net.numbers f → is_lt (edge_cmp f e) ≡ false
  first f edge (opens, leads) =
      let a : ℕ = position net.numbers f.from in
      let b : ℕ = position net.numbers f.to in
      let t : Tie opening net a b = tie_of (net_for opening of) f edge opens in
      let from_at : slice_get net.numbers a ≡ Some f.from = stands_at h net.numbers of.committed.each_once f.from edge.0 in
      let to_at : slice_get net.numbers b ≡ Some f.to = stands_at h net.numbers of.committed.each_once f.to edge.1 in
      elim (cases_order a p) [
        | inl same ↦
            let from_same : f.from ≡ e.from = same_Some f.from e.from (sym from_at ∙ ap (slice_get net.numbers) same ∙ l.from) in
            elim (cases_order b q) [
              | inl one ↦ l.least f (of.all f edge refl) from_same (same_Some f.to e.to (sym to_at ∙ ap (slice_get net.numbers) one ∙ l.to)) opens
              | inr (inl less) ↦ absurd (next b less (subst (Reaches graph b) same leads) (subst (λ k. Tie opening net k b) same t))
              | inr (inr more) ↦ later_to e f (sym from_same) (greater q e.to f.to l.to more to_at (node_within h net.numbers of.committed.each_once f.to edge.1))
            ]
        | inr (inl less) ↦ absurd (before a b less leads t)
        | inr (inr more) ↦ later_from e f (greater p e.from f.from l.from more from_at (node_within h net.numbers of.committed.each_once f.from edge.0))
      ]

  -- so the least edge from the first node to the first other one is the first
  pub is_first : IsFirstOpening h opening graph net.numbers e
  is_first = record { edge = of.edges e l.is_one; opens = (l.kind, of_both (Reaches graph) (sym to_is) (sym from_is) back); first = first }
