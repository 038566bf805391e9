-- The findings of a run, from those of its parts.
use Rattle.std.specs.Prelude.{◌≡◌, ◌↔◌, ℕ, nat_le, cond, Some, List, [], ◌∷◌, map, slice_get}
use Rattle.std.specs.List.{All}
use Rattle.lab_history.specs.History.{History}
use Rattle.lab_deps.specs.Soundness.{IsSound}
use Rattle.lab_judge.specs.Places.{IsCircle}
use Rattle.lab_judge.specs.declared.places.Point.{Point}
use Rattle.lab_judge.specs.declared.places.Point.TheVariants.{Start, Commit}
use Rattle.lab_judge.specs.declared.report.Grade.{Grade}
use Rattle.lab_judge.specs.declared.report.Grade.TheVariants.{BelowPl1, Pl1, Pl2, Pl299, Pl3, Unsound}
use Rattle.lab_parts.specs.Whole.{moved, whole, Fits, number_in}

-- a start or a commit in the part behind this one, under the number that its transaction has in the run
abbrev pub moved_point : History → Point → Point
moved_point before (Start n) = Start (moved before n)
moved_point before (Commit n) = Commit (moved before n)

-- one in a part, whose place is counted from 0, under the number of the run
abbrev pub point_in : History → List History → ℕ → Point → Point
point_in first parts place (Start n) = Start (number_in first parts place n)
point_in first parts place (Commit n) = Commit (number_in first parts place n)

-- what has this form in the run has it in a part, whose place is counted from 0, under the numbers of the part
pub record IsOfPart {X : Type 0} (Is : History → List X → Type 0) (put : History → List History → ℕ → X → X) (first : History) (parts : List History) (xs : List X) : Type 0 where
  pub place : ℕ
  pub part : History
  pub is_part : slice_get (first ∷ parts) place ≡ Some part
  pub there : List X
  pub is_one : Is part there
  pub moved_is : xs ≡ map (put first parts place) there

-- of sound parts that fit the run has exactly those of this form that one of the parts has
abbrev pub HasThoseOfParts : {X : Type 0} → (History → List X → Type 0) → (History → List History → ℕ → X → X) → Type 0
HasThoseOfParts {X} Is put =
    (first : History) (parts : List History) → IsSound first → All IsSound parts → Fits first parts → (xs : List X) → Is (whole first parts) xs ↔ IsOfPart Is put first parts xs

-- of sound parts that fit the run is free of something where each part is
abbrev pub IsFreeByParts : (History → Type 0) → Type 0
IsFreeByParts IsFree = (first : History) (parts : List History) → IsSound first → All IsSound parts → Fits first parts → IsFree (whole first parts) ↔ (IsFree first × All IsFree parts)

-- no list of points is a cycle of starts and commits
abbrev pub NoCircle : History → Type 0
NoCircle h = (points : List Point) → IsCircle h points → ⊥

-- how high a level is
abbrev pub grade_place : Grade → ℕ
grade_place Unsound = 0
grade_place BelowPl1 = 1
grade_place Pl1 = 2
grade_place Pl2 = 3
grade_place Pl299 = 4
grade_place Pl3 = 5

-- the lower one of two levels
abbrev pub least_grade : Grade → Grade → Grade
least_grade g h = cond (nat_le (grade_place g) (grade_place h)) g h

-- the lowest of levels
abbrev pub least_of : Grade → List Grade → Grade
least_of g [] = g
least_of g (h ∷ others) = least_grade g (least_of h others)

-- a part, and a level
pub record Graded : Type 0 where
  pub part : History
  pub level : Grade
