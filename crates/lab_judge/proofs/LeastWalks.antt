-- Walks that take the least edge between each two neighbours.
use Rattle.std.{proofs.{Common.{◌≡◌, ℕ, suc, ◌+◌, ◌<◌, ◌≤◌, Bool, List, [], ◌∷◌, ◌++◌, length, get_or, drop, slice_index, refl, sym, ap, ◌∙◌, subst, arith}, lemmas.List.{append_assoc, append-nil, drop_all}, Math.Seq.{drop-cons}}, specs.Prelude.{not}}
use Rattle.lab_order.specs.{Arrows.{Arrows}, Back.{IsBackCircle}, Order.{position}, Path.{IsPath}}
use Rattle.lab_history.specs.History.{History}
use Rattle.lab_deps.specs.{Edges.{IsEdge}, KindsBetween.{KindsBetween}, declared.edge.{Edge.{Edge}, Kind.{Kind}}}
use Rattle.lab_judge.specs.{Graphs.{IsGraphOf, IsNetOf, last_of}, LeastWalks.{IsLeastEdge, GoesAlong, GoesRound, GoesBy, IsWayBack, IsBackWalk, IsOpenedRound}, Openings.{IsClosedOf, IsOpenedWalk}, Phenomena.{IsWalk}}
use Rattle.lab_judge.proofs.{Chains.{path_ends, last_pushed}, ClosedWalks.{times_are, Through, through_none, closed, closes, turn_closed, turn_counts}, Nets.{number_again, edge_graph}, OpenedWalks.{at_most_one, at_least_one}}

module _ (h : History) (a : Kind → Bool) (txns : List ℕ) (from : ℕ) (way : List ℕ) where
  -- what leads on to the end of the way, behind a walk so far
  abbrev pub LeadsOn : ℕ → ℕ → List Edge → Type 0
  LeadsOn at i walk = (rest : List Edge) → GoesAlong h a txns at (drop i way) rest → GoesAlong h a txns from way (walk ++ rest)

  -- one step more
  pub steps_on : (at i : ℕ) (walk new : List Edge) (e : Edge) → i < length way → new ≡ walk ++ e ∷ [] → IsLeastEdge h a (slice_index txns at) (slice_index txns (get_or way i 0)) e
      → LeadsOn at i walk → LeadsOn (get_or way i 0) (i + 1) new
  steps_on at i walk new e lt pushed least so_far rest goes =
      let one : suc i ≡ i + 1 = omega arith in
      let parts : drop i way ≡ get_or way i 0 ∷ drop (i + 1) way = drop-cons way i 0 lt ∙ ap (λ k. get_or way i 0 ∷ drop k way) one in
      let all : GoesAlong h a txns from way (walk ++ (e ∷ rest)) = so_far (e ∷ rest) (subst (λ l. GoesAlong h a txns at l (e ∷ rest)) (sym parts) (least, goes)) in
      subst (GoesAlong h a txns from way) (sym (ap (λ l. l ++ rest) pushed ∙ append_assoc walk (e ∷ []) rest)) all

  -- at the end of the way
  pub gone_along : (at i : ℕ) (walk : List Edge) → length way ≤ i → LeadsOn at i walk → GoesAlong h a txns from way walk
  gone_along at i walk past so_far =
      subst (GoesAlong h a txns from way) (append-nil walk) (so_far [] (subst (λ l. GoesAlong h a txns at l []) (sym (drop_all i way past)) tt))

-- such a walk leads where its way does, by allowed edges alone
pub goes_walk : (h : History) (a : Kind → Bool) (txns : List ℕ) (from : ℕ) (way : List ℕ) (es : List Edge) → GoesAlong h a txns from way es
    → IsWalk h (slice_index txns from) es (slice_index txns (last_of from way)) × Through a es
goes_walk h a txns from [] [] g = (refl, tt)
goes_walk h a txns from (n ∷ way) (e ∷ es) (l, g) =
    let rest : IsWalk h (slice_index txns n) es (slice_index txns (last_of n way)) × Through a es = goes_walk h a txns n way es g in
    ((l.edge, l.from, subst (λ k. IsWalk h k es (slice_index txns (last_of n way))) (sym l.to) rest.0), (l.kind, rest.1))
goes_walk h a txns from way es g = absurd g

some_edge : (h : History) (a : Kind → Bool) (txns : List ℕ) (from n : ℕ) (way : List ℕ) (es : List Edge) → GoesAlong h a txns from (way ++ n ∷ []) es → 1 ≤ length es
some_edge h a txns from n way (e ∷ es) g = omega arith
some_edge h a txns from n [] [] g = absurd g
some_edge h a txns from n (m ∷ way) [] g = absurd g

-- round a cycle it is closed
round_closed : (h : History) (a : Kind → Bool) (txns circle : List ℕ) (es : List Edge) → GoesRound h a txns circle es → IsClosedOf h a es
round_closed h a txns [] es g = absurd g
round_closed h a txns (n ∷ way) es g =
    let w : IsWalk h (slice_index txns n) es (slice_index txns (last_of n (way ++ n ∷ []))) × Through a es = goes_walk h a txns n (way ++ n ∷ []) es g in (
      closes h es (slice_index txns n) (some_edge h a txns n n way es g) (subst (λ k. IsWalk h (slice_index txns n) es (slice_index txns k)) (last_pushed n way n) w.0),
      sym (times_are (λ k. not (a k)) es) ∙ through_none a es w.1,
    )

-- so is the one on the way back
pub back_closed : (h : History) (a : Kind → Bool) (es : List Edge) → IsBackWalk h a es → IsClosedOf h a es
back_closed h a es w = round_closed h a w.txns w.circle es w.round

-- which the walk round such a cycle of the graph of a net is
pub is_back : {h : History} {a : Kind → Bool} {net : KindsBetween} → IsNetOf h a net → (graph : Arrows) → IsGraphOf a net graph → (circle : List ℕ) → IsBackCircle graph circle
    → (walk : List Edge) → GoesRound h a net.numbers circle walk → IsBackWalk h a walk
is_back {net = net} of graph is circle back walk goes =
    record { txns = net.numbers; committed = of.committed; graph = graph; edges = edge_graph of graph is; circle = circle; back = back; round = goes }

module _ (h : History) (a opening : Kind → Bool) where
  -- back from an edge it leads to where that begins
  back_walk : (graph : Arrows) (txns : List ℕ) (e : Edge) → slice_index txns (position txns e.from) ≡ e.from → slice_index txns (position txns e.to) ≡ e.to → (back : List Edge)
      → IsWayBack h a graph txns e back → IsWalk h e.to back e.from × Through a back
  back_walk graph txns e from_is to_is back way = at way.path way.least.is_one.is_path way.goes
    where
      at : (path : List ℕ) → IsPath graph (position txns e.to) (position txns e.from) path → GoesBy h a txns path back → IsWalk h e.to back e.from × Through a back
      at [] p g = absurd g
      at (n ∷ ns) (same, leads) g =
          let w : IsWalk h (slice_index txns n) back (slice_index txns (last_of n ns)) × Through a back = goes_walk h a txns n ns back g in
          let from : slice_index txns n ≡ e.to = ap (slice_index txns) same ∙ to_is in
          let to : slice_index txns (last_of n ns) ≡ e.from = ap (slice_index txns) (path_ends graph n ns (position txns e.from) leads) ∙ from_is in
          (subst (λ k. IsWalk h k back e.from) from (subst (IsWalk h (slice_index txns n) back) to w.0), w.1)

  -- so with the edge, turned to its least, it is a cycle that the edge opens
  pub opened_walk : (walk : List Edge) → IsOpenedRound h opening a walk → IsOpenedWalk h opening a walk
  opened_walk walk o =
      let e : Edge = o.edge in
      let edge : IsEdge h e = o.first.edge in
      let again = λ (n : ℕ). number_again h o.txns o.committed.each_once n in
      let w : IsWalk h e.to o.back e.from × Through a o.back = back_walk o.graph o.txns e (again e.from edge.0) (again e.to edge.1) o.back o.way in (
        turn_closed h (e ∷ o.back) walk o.turned (closed h e o.back edge w.0),
        subst (λ n. 1 ≤ n) (sym (turn_counts opening (e ∷ o.back) walk o.turned)) (at_least_one opening e o.back o.first.opens.0),
        subst (λ n. n ≤ 1) (sym (turn_counts (λ k. not (a k)) (e ∷ o.back) walk o.turned)) (at_most_one (λ k. not (a k)) e o.back (sym (times_are (λ k. not (a k)) o.back) ∙ through_none a o.back w.1)),
      )
