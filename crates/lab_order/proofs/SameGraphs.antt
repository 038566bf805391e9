-- What graphs with the same arrows have in common: the cycle on the way back, and the least shortest paths.
use Rattle.std.proofs.Common.{ℕ, List, [], ◌∷◌}
use Rattle.lab_order.{specs.{Arrows.{Arrows, IsArrow}, Knots.{IsStuck, IsLeastStuck, IsBack, ComesBack, IsMet, IsBackCircle}, Least.{IsLess, IsLeast}, Path.{Leads, IsPath, IsShortestPath}}, proofs.Trails.{ring_of}}
use Rattle.lab_order.specs.Back as back

-- arrows of one kind are of another
abbrev pub AreOf : {X : Type 0} → (X → X → Type 0) → (X → X → Type 0) → Type 0
AreOf {X} IsOne IsOther = (a b : X) → IsOne a b → IsOther a b

-- each arrow of a graph is one of another
abbrev pub HasArrowsOf : Arrows → Arrows → Type 0
HasArrowsOf graph other = AreOf (IsArrow other) (IsArrow graph)

-- what is stuck stays so with more arrows
stuck_in : {X : Type 0} (IsOne IsOther : X → X → Type 0) → AreOf IsOne IsOther → (x : X) → IsStuck IsOne x → IsStuck IsOther x
stuck_in IsOne IsOther more x (these, is, knotted) = (these, is, λ y there. let w = knotted y there in (w.0, w.1, more w.0 y w.2))

module _ {X : Type 0} (IsLower IsOne IsOther : X → X → Type 0) (more : AreOf IsOne IsOther) (fewer : AreOf IsOther IsOne) where
  back_in : (from x : X) → IsBack IsLower IsOne from x → IsBack IsLower IsOther from x
  back_in from x b = record {
    arrow = more from x b.arrow;
    stuck = stuck_in IsOne IsOther more from b.stuck;
    least = λ y lt arrow stuck. b.least y lt (fewer y x arrow) (stuck_in IsOther IsOne fewer y stuck);
  }

  comes_in : (x : X) (ys : List X) (to : X) → ComesBack IsLower IsOne x ys to → ComesBack IsLower IsOther x ys to
  comes_in x [] to same = same
  comes_in x (y ∷ ys) to (step, rest) = (back_in y x step, comes_in y ys to rest)

  least_in : (x : X) → IsLeastStuck IsLower IsOne x → IsLeastStuck IsLower IsOther x
  least_in x l = record { stuck = stuck_in IsOne IsOther more x l.stuck; least = λ y lt stuck. l.least y lt (stuck_in IsOther IsOne fewer y stuck) }

  met_in : (x : X) → IsMet IsLower IsOne x → IsMet IsLower IsOther x
  met_in x m = record { start = m.start; least = least_in m.start m.least; way = m.way; back = comes_in m.start m.way x m.back }

  circle_in : (circle : List X) → IsBackCircle IsLower IsOne circle → IsBackCircle IsLower IsOther circle
  circle_in circle b = record {
    back = ring_of (IsBack IsLower IsOne) (IsBack IsLower IsOther) back_in circle b.back;
    first = b.first;
    met = λ k d lt. met_in _ (b.met k d lt);
  }

pub back_circle_in : (g k : Arrows) → HasArrowsOf k g → HasArrowsOf g k → (circle : List ℕ) → back.IsBackCircle g circle → back.IsBackCircle k circle
back_circle_in g k more fewer circle b = circle_in IsLess (IsArrow g) (IsArrow k) more fewer circle b

module _ (g k : Arrows) (more : HasArrowsOf k g) where
  -- what leads along arrows leads so where there are more
  leads_in : (from : ℕ) (ns : List ℕ) (to : ℕ) → Leads g from ns to → Leads k from ns to
  leads_in from [] to same = same
  leads_in from (n ∷ ns) to (step, rest) = (more from n step, leads_in n ns to rest)

  pub path_in : (from to : ℕ) (ns : List ℕ) → IsPath g from to ns → IsPath k from to ns
  path_in from to [] is = is
  path_in from to (n ∷ ns) (is, leads) = (is, leads_in n ns to leads)

-- and the least of the shortest paths is that of each
module _ (g k : Arrows) (more : HasArrowsOf k g) (fewer : HasArrowsOf g k) (from to : ℕ) where
  shortest_in : (ns : List ℕ) → IsShortestPath g from to ns → IsShortestPath k from to ns
  shortest_in ns s = record { is_path = path_in g k more from to ns s.is_path; shortest = λ other is. s.shortest other (path_in k g fewer from to other is) }

pub least_path_in : (g k : Arrows) → HasArrowsOf k g → HasArrowsOf g k → (from to : ℕ) (ns : List ℕ) → IsLeast (IsShortestPath g from to) ns → IsLeast (IsShortestPath k from to) ns
least_path_in g k more fewer from to ns l = record {
  is_one = shortest_in g k more fewer from to ns l.is_one;
  least = λ other is. l.least other (shortest_in k g fewer more from to other is);
}
