-- Which point has to come before which in two parts, one behind the other: as in one of them, or one of the first before one of the second.
use Rattle.std.proofs.Common.{◌≡◌, ℕ, ◌<◌, Bool, refl, sym, ap, ◌∙◌, arith, ◌⊎◌, inl, inr}
use Rattle.lab_history.specs.{History.{History}, Version.{IsCommitted, outcome_of}}
use Rattle.lab_deps.specs.{KindSets.{is_anti, is_flow}, declared.edge.Kind.{Kind}}
use Rattle.lab_judge.specs.{Places.{HasEdge, IsArrow}, declared.places.Point.{Point, TheVariants.{Start, Commit}}}
use Rattle.lab_parts.{specs.{Whole.{above_all, moved, joined}, WholeEdges.{moved_edge}, WholeFindings.{moved_point}}, proofs.{JoinedTxns.{first_or_second, outcome_first, outcome_second, committed_below}, SplitWalks.{Across, Splits}}}

-- the transaction whose start or commit it is
abbrev pub txn_of : Point → ℕ
txn_of (Start n) = n
txn_of (Commit n) = n

-- an arrow is one of the second part, moved
abbrev pub IsMovedArrow : History → History → Point → Point → Type 0
IsMovedArrow a b p q = (from to : Point) × IsArrow b from to × (p ≡ moved_point a from) × (q ≡ moved_point a to)

-- an edge between two numbers is one of the second part, moved
abbrev HasMoved : History → History → (Kind → Bool) → ℕ → ℕ → Type 0
HasMoved a b allows from to = (m n : ℕ) × HasEdge b allows m n × (from ≡ moved a m) × (to ≡ moved a n)

module _ (a b : History) (splits : Splits a b) where
  -- ---- edges between numbers
  first_edge : (allows : Kind → Bool) (from to : ℕ) → HasEdge a allows from to → HasEdge (joined a b) allows from to
  first_edge allows from to (e, edge, is, also, kind) = (e, splits.first e edge, is, also, kind)

  second_edge : (allows : Kind → Bool) (from to : ℕ) → HasEdge b allows from to → HasEdge (joined a b) allows (moved a from) (moved a to)
  second_edge allows from to (e, edge, is, also, kind) = (moved_edge a e, splits.second e edge, ap (moved a) is, ap (moved a) also, kind)

  each_edge : (allows : Kind → Bool) (from to : ℕ) → HasEdge (joined a b) allows from to → HasEdge a allows from to ⊎ (HasMoved a b allows from to ⊎ Across a from to)
  each_edge allows from to (e, edge, is, also, kind) = elim (splits.each e edge) [
    | inl first ↦ inl (e, first, is, also, kind)
    | inr other ↦ elim other [
      | inl second ↦ inr (inl (
        second.0.from,
        second.0.to,
        (second.0, second.1, refl, refl, ap (λ e. allows e.kind) (sym second.2) ∙ kind),
        sym is ∙ ap (λ e. e.from) second.2,
        sym also ∙ ap (λ e. e.to) second.2,
      ))
      | inr across ↦ inr (inr (omega (arith, across.0, is), omega (arith, across.1, also)))
    ]
  ]

  -- ---- arrows between points
  pub first_arrow : (p q : Point) → IsArrow a p q → IsArrow (joined a b) p q
  first_arrow (Start m) (Commit n) (inl own) = inl (outcome_first a b m (committed_below a m own.0) ∙ own.0, own.1)
  first_arrow (Start m) (Commit n) (inr edge) = inr (first_edge is_anti m n edge)
  first_arrow (Commit m) (Start n) edge = first_edge is_flow m n edge
  first_arrow (Start m) (Start n) arrow = arrow
  first_arrow (Commit m) (Commit n) arrow = arrow

  pub second_arrow : (p q : Point) → IsArrow b p q → IsArrow (joined a b) (moved_point a p) (moved_point a q)
  second_arrow (Start m) (Commit n) (inl own) = inl (outcome_second a b m ∙ own.0, ap (moved a) own.1)
  second_arrow (Start m) (Commit n) (inr edge) = inr (second_edge is_anti m n edge)
  second_arrow (Commit m) (Start n) edge = second_edge is_flow m n edge
  second_arrow (Start m) (Start n) arrow = arrow
  second_arrow (Commit m) (Commit n) arrow = arrow

  -- a transaction's start and its commit are of one part
  own_arrow : (m n : ℕ) → IsCommitted (joined a b) m → m ≡ n → IsArrow a (Start m) (Commit n) ⊎ IsMovedArrow a b (Start m) (Commit n)
  own_arrow m n c same = elim (first_or_second a b m) [
    | inl less ↦ inl (inl (sym (outcome_first a b m less) ∙ c, same))
    | inr behind ↦ inr (
      Start behind.0,
      Commit behind.0,
      inl (sym (outcome_second a b behind.0) ∙ ap (λ n. outcome_of (joined a b) n) (sym behind.1) ∙ c, refl),
      ap Start behind.1,
      ap Commit (sym same ∙ behind.1),
    )
  ]

  pub each_arrow : (p q : Point) → IsArrow (joined a b) p q → IsArrow a p q ⊎ (IsMovedArrow a b p q ⊎ Across a (txn_of p) (txn_of q))
  each_arrow (Start m) (Commit n) (inl own) = elim (own_arrow m n own.0 own.1) [ inl first ↦ inl first | inr second ↦ inr (inl second) ]
  each_arrow (Start m) (Commit n) (inr edge) = elim (each_edge is_anti m n edge) [
    | inl first ↦ inl (inr first)
    | inr other ↦ elim other [
      | inl second ↦ inr (inl (Start second.0, Commit second.1, inr second.2, ap Start second.3, ap Commit second.4))
      | inr across ↦ inr (inr across)
    ]
  ]
  each_arrow (Commit m) (Start n) edge = elim (each_edge is_flow m n edge) [
    | inl first ↦ inl first
    | inr other ↦ elim other [
      | inl second ↦ inr (inl (Commit second.0, Start second.1, second.2, ap Commit second.3, ap Start second.4))
      | inr across ↦ inr (inr across)
    ]
  ]
  each_arrow (Start m) (Start n) arrow = absurd arrow
  each_arrow (Commit m) (Commit n) arrow = absurd arrow

  -- an arrow of the first part begins and ends in it
  edge_below : (allows : Kind → Bool) (from to : ℕ) → HasEdge a allows from to → from < above_all a.txns
  edge_below allows from to (e, edge, is, also, kind) = let less : e.from < above_all a.txns = committed_below a e.from edge.0 in omega (arith, less, is)

  pub arrow_below : (p q : Point) → IsArrow a p q → txn_of p < above_all a.txns
  arrow_below (Start m) (Commit n) (inl own) = committed_below a m own.0
  arrow_below (Start m) (Commit n) (inr edge) = edge_below is_anti m n edge
  arrow_below (Commit m) (Start n) edge = edge_below is_flow m n edge
  arrow_below (Start m) (Start n) arrow = absurd arrow
  arrow_below (Commit m) (Commit n) arrow = absurd arrow
