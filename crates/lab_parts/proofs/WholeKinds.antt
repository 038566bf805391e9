-- Cycles of each kind, and cycles of starts and commits: of sound parts that fit a run has those of its parts.
use Rattle.std.proofs.Common.{◌≡◌, ℕ, Bool, suc, List, ◌∷◌, refl}
use Rattle.lab_history.specs.History.{History}
use Rattle.lab_deps.specs.declared.edge.Kind.{Kind}
use Rattle.lab_judge.specs.{Phenomena.{IsClosedWalk, NoWalk}, Places.{IsCircle}, declared.places.Point.{Point, TheVariants.{Start, Commit}}}
use Rattle.lab_parts.specs.{WholeEdges.{moved_edge, edge_in}, WholeFindings.{moved_point, point_in, HasThoseOfParts, IsFreeByParts, NoCircle}}
use Rattle.lab_parts.proofs.{SplitWalks.{first_closed, second_closed, each_closed}, SplitKinds.{IsCounted, counted_first, counted_second, counted_each, no_walk, no_counted}, SplitCircles.{first_circle, second_circle, each_circle, no_circle}, WholeCycles.{those_of_parts}, WholeFree.{free_by_parts}}

-- ---- exactly those of the parts
pub cycles : HasThoseOfParts IsClosedWalk edge_in
cycles =
    those_of_parts IsClosedWalk moved_edge edge_in (λ first parts e. refl) (λ first part parts place e. refl)
    (λ a b splits. record { first = first_closed a b splits; second = second_closed a b splits; each = each_closed a b splits })

module _ (test : Kind → Bool) (Many : ℕ → Type 0) where
  pub counted_cycles : HasThoseOfParts (IsCounted test Many) edge_in
  counted_cycles =
      those_of_parts (IsCounted test Many) moved_edge edge_in (λ first parts e. refl) (λ first part parts place e. refl)
      (λ a b splits. record { first = counted_first a b splits test Many; second = counted_second a b splits test Many; each = counted_each a b splits test Many })

  pub free_of_counted : IsFreeByParts (λ h. NoWalk (IsCounted test Many h))
  free_of_counted = free_by_parts (λ h. NoWalk (IsCounted test Many h)) (λ a b splits. no_counted a b splits test Many)

point_first : (first : History) (parts : List History) (p : Point) → point_in first parts 0 p ≡ p
point_first first parts (Start n) = refl
point_first first parts (Commit n) = refl

point_later : (first part : History) (parts : List History) (place : ℕ) (p : Point) → point_in first (part ∷ parts) (suc place) p ≡ moved_point first (point_in part parts place p)
point_later first part parts place (Start n) = refl
point_later first part parts place (Commit n) = refl

pub circles : HasThoseOfParts IsCircle point_in
circles =
    those_of_parts IsCircle moved_point point_in point_first point_later
    (λ a b splits. record { first = first_circle a b splits; second = second_circle a b splits; each = each_circle a b splits })

-- ---- and none where no part has one
pub free_of_cycles : IsFreeByParts (λ h. NoWalk (IsClosedWalk h))
free_of_cycles = free_by_parts (λ h. NoWalk (IsClosedWalk h)) no_walk

pub free_of_circles : IsFreeByParts NoCircle
free_of_circles = free_by_parts NoCircle no_circle
