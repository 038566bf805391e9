-- Which start and commit timestamps a snapshot yes reports: the least order of starts and commits along which every
-- arrow points forward.
use Rattle.std.specs.Prelude.{◌≡◌, ℕ, suc, ◌+◌, ◌*◌, ◌<◌, ◌==◌, Bool, cond, List, [], ◌∷◌, map, count_by, Contains, ⊤}
use Rattle.std.specs.List.Sorted.{IsStrictlyIncreasing}
use Rattle.lab_order.specs.Least.{IsLeastBy}
use Rattle.lab_history.specs.History.{History}
use Rattle.lab_history.specs.Version.{outcome_of}
use Rattle.lab_deps.specs.Soundness.{has_committed}
use Rattle.lab_judge.specs.Runs.{Span}
use Rattle.lab_judge.specs.Places.{IsArrow}
use Rattle.lab_judge.specs.declared.places.Point.{Point}
use Rattle.lab_judge.specs.declared.places.Point.TheVariants.{Start, Commit}
use Rattle.lab_judge.specs.declared.places.Places.{Places}
use Rattle.lab_judge.specs.declared.places.Places.TheVariants as places

-- the transaction that starts or commits at a point
abbrev pub txn_of : Point → ℕ
txn_of (Start n) = n
txn_of (Commit n) = n

-- points by number: those of a lower transaction come first, and a start before its commit
abbrev pub label : Point → ℕ
label (Start n) = 2 * n
label (Commit n) = 2 * n + 1

-- whether two points are one
abbrev pub is_point : Point → Point → Bool
is_point p q = label p == label q

-- a point is lower than another
abbrev pub IsLower : Point → Point → Type 0
IsLower p q = label p < label q

-- the place of a point in an order, counted from 0
abbrev pub place_in : List Point → Point → ℕ
place_in [] p = 0
place_in (q ∷ qs) p = cond (is_point q p) 0 (suc (place_in qs p))

-- the start and the commit of each committed transaction once, no other point, and every arrow points forward
pub record IsPointOrder (h : History) (points : List Point) : Type 0 where
  pub each_once : (p : Point) → count_by (λ q. is_point q p) points ≡ cond (has_committed (outcome_of h (txn_of p))) 1 0
  pub forward : (p q : Point) → IsArrow h p q → place_in points p < place_in points q

-- of such orders the least, point by point
abbrev pub IsLeastPointOrder : History → List Point → Type 0
IsLeastPointOrder h points = IsLeastBy IsLower (IsPointOrder h) points

-- transactions by rising number, each with the places of its start and of its commit in an order
pub record ArePlacedAlong (points : List Point) (spans : List Span) : Type 0 where
  pub rising : IsStrictlyIncreasing (map (λ s. s.txn) spans)
  pub placed : (s : Span) → Contains spans s → (s.start ≡ place_in points (Start s.txn)) × (s.commit ≡ place_in points (Commit s.txn))

-- the places of a yes are those of the least order of all starts and commits along which every arrow points forward
abbrev pub IsLeastPlacing : History → Places → Type 0
IsLeastPlacing h (places.Yes spans) = (points : List Point) × IsLeastPointOrder h points × ArePlacedAlong points spans
IsLeastPlacing h (places.NoFault fault) = ⊤
IsLeastPlacing h (places.NoCycle points) = ⊤
