-- Of the walks that begin with a first anti-dependency a history has one of each kind.
use Rattle.std.{proofs.{Common.{◌≡◌, ℕ, ◌<◌, ◌≤◌, Bool, List, [], ◌∷◌, ◌++◌, refl, sym, ap, ◌∙◌, subst, arith}, lemmas.List.Elements.{All-head, All-tail, All-contains, Contains-append_right}}, specs.List.{All}}
use Rattle.lab_order.{specs.{Arrows.{Arrows}, Order.{position}, Path.{IsShortestPath}}, proofs.{Least.{one_least}, SameGraphs.{HasArrowsOf, path_in, least_path_in}}}
use Rattle.lab_history.specs.History.{History}
use Rattle.lab_deps.specs.declared.edge.{Edge.{Edge}, Kind.{Kind}}
use Rattle.lab_judge.{specs.{LeastWalks.{IsEdgeGraph, GoesBy, IsWayBack, IsFirstOpening, IsTurnToLeast, IsOpenedRound}, Openings.{IsOpening}}, proofs.{Suffixes.{head_same, tail_same}, OneWalk.{neither_less, one_along, one_committed, same_arrows}}}

module _ (g k : Arrows) (more : HasArrowsOf k g) where
  -- what opens a walk does so where there are more arrows
  opening_in : (opening : Kind → Bool) (txns : List ℕ) (e : Edge) → IsOpening opening g txns e → IsOpening opening k txns e
  opening_in opening txns e (opens, (path, is)) = (opens, (path, path_in g k more (position txns e.to) (position txns e.from) path is))

-- what holds of all of a list holds of the first behind its front
behind_front : (P : Edge → Type 0) (front : List Edge) (e : Edge) (rest : List Edge) → All P (front ++ e ∷ rest) → P e
behind_front P front e rest all = All-contains P (front ++ e ∷ rest) e all (Contains-append_right front (e ∷ rest) e (0, omega arith, refl))

-- edges are cut in one way before the first of those from the least transaction
cut_once : (f : List Edge) (x : Edge) (r g : List Edge) (y : Edge) (s : List Edge) → f ++ x ∷ r ≡ g ++ y ∷ s
    → All (λ e. x.from < e.from) f → All (λ e. x.from ≤ e.from) r → All (λ e. y.from < e.from) g → All (λ e. y.from ≤ e.from) s → (f ≡ g) × (x ∷ r ≡ y ∷ s)
cut_once [] x r [] y s same p q u v = (refl, same)
cut_once [] x r (b ∷ g) y s same p q u v =
    let less : y.from < b.from = All-head (λ e. y.from < e.from) b g u in
    let is : x.from ≡ b.from = ap (λ e. e.from) (head_same x b r (g ++ y ∷ s) same) in
    let low : x.from ≤ y.from = behind_front (λ e. x.from ≤ e.from) g y s (subst (All (λ e. x.from ≤ e.from)) (tail_same x b r (g ++ y ∷ s) same) q) in
    absurd (omega (arith, less, is, low))
cut_once (a ∷ f) x r [] y s same p q u v =
    let less : x.from < a.from = All-head (λ e. x.from < e.from) a f p in
    let is : a.from ≡ y.from = ap (λ e. e.from) (head_same a y (f ++ x ∷ r) s same) in
    let low : y.from ≤ x.from = behind_front (λ e. y.from ≤ e.from) f x r (subst (All (λ e. y.from ≤ e.from)) (sym (tail_same a y (f ++ x ∷ r) s same)) v) in
    absurd (omega (arith, less, is, low))
cut_once (a ∷ f) x r (b ∷ g) y s same p q u v =
    let rest : (f ≡ g) × (x ∷ r ≡ y ∷ s)
    = cut_once f x r g y s (tail_same a b (f ++ x ∷ r) (g ++ y ∷ s) same) (All-tail (λ e. x.from < e.from) a f p) q (All-tail (λ e. y.from < e.from) b g u) v in
    (ap (λ e. e ∷ f) (head_same a b (f ++ x ∷ r) (g ++ y ∷ s) same) ∙ ap (λ es. b ∷ es) rest.0, rest.1)

-- a round is turned to its least transaction in one way
one_turn : (round walk other : List Edge) → IsTurnToLeast round walk → IsTurnToLeast round other → walk ≡ other
one_turn round walk other t u =
    let cut : (t.front ≡ u.front) × (t.first ∷ t.rest ≡ u.first ∷ u.rest)
    = cut_once t.front t.first t.rest u.front u.first u.rest (sym t.split ∙ u.split) t.greater t.no_less u.greater u.no_less in
    t.turned ∙ ap (λ es. es ++ t.front) cut.1 ∙ ap (λ es. (u.first ∷ u.rest) ++ es) cut.0 ∙ sym u.turned

module _ (h : History) (opening : Kind → Bool) (a : Kind → Bool) where
  -- from the first node of a path there is one walk along it
  one_by : (txns path : List ℕ) (es fs : List Edge) → GoesBy h a txns path es → GoesBy h a txns path fs → es ≡ fs
  one_by txns [] es fs goes again = absurd goes
  one_by txns (n ∷ way) es fs goes again = one_along h a txns n way es fs goes again

  -- the round over these transactions
  abbrev Over : List ℕ → List Edge → Type 0
  Over txns walk = (graph : Arrows) × (e : Edge) × (back : List Edge) × IsEdgeGraph h a txns graph × IsFirstOpening h opening graph txns e × IsWayBack h a graph txns e back × IsTurnToLeast (e ∷ back) walk

  over : (walk : List Edge) → (o : IsOpenedRound h opening a walk) → Over o.txns walk
  over walk o = (o.graph, o.edge, o.back, o.edges, o.first, o.way, o.turned)

  module _ (txns : List ℕ) (g k : Arrows) (more : HasArrowsOf k g) (fewer : HasArrowsOf g k) where
    one_opening : (e f : Edge) → IsFirstOpening h opening g txns e → IsFirstOpening h opening k txns f → e ≡ f
    one_opening e f p q = neither_less e f (q.first e p.edge (opening_in g k more opening txns e p.opens)) (p.first f q.edge (opening_in k g fewer opening txns f q.opens))

    one_way : (e : Edge) (es fs : List Edge) → IsWayBack h a g txns e es → IsWayBack h a k txns e fs → es ≡ fs
    one_way e es fs w v =
        let from : ℕ = position txns e.to in
        let to : ℕ = position txns e.from in
        let paths : w.path ≡ v.path = one_least (IsShortestPath k from to) w.path v.path (least_path_in g k more fewer from to w.path w.least) v.least in
        one_by txns v.path es fs (subst (λ path. GoesBy h a txns path es) paths w.goes) v.goes

  one_over : (txns : List ℕ) (es fs : List Edge) → Over txns es → Over txns fs → es ≡ fs
  one_over txns es fs (g, e, back, edges, first, way, turn) (k, f, other, same, again, road, round) =
      let more : HasArrowsOf k g = same_arrows h a txns g k edges same in
      let fewer : HasArrowsOf g k = same_arrows h a txns k g same edges in
      let opened : e ≡ f = one_opening txns g k more fewer e f first again in
      let backs : back ≡ other = one_way txns g k more fewer f back other (subst (λ d. IsWayBack h a g txns d back) opened way) road in
      one_turn (f ∷ other) es fs (subst (λ l. IsTurnToLeast l es) (ap (λ d. d ∷ back) opened ∙ ap (λ l. f ∷ l) backs) turn) round

  pub one_opened_round : (es fs : List Edge) → IsOpenedRound h opening a es → IsOpenedRound h opening a fs → es ≡ fs
  one_opened_round es fs o p = one_over o.txns es fs (over es o) (subst (λ ns. Over ns fs) (one_committed h p.txns o.txns p.committed o.committed) (over fs p))
