-- The cycle that a snapshot no reports: found by going back from the lowest start or commit that no order can place.
use Rattle.std.specs.Prelude.{⊤}
use Rattle.lab_order.specs.Knots.{IsBackCircle}
use Rattle.lab_history.specs.History.{History}
use Rattle.lab_judge.specs.LeastPlaces.{IsLower}
use Rattle.lab_judge.specs.Places.{IsArrow}
use Rattle.lab_judge.specs.declared.places.Places.{Places}
use Rattle.lab_judge.specs.declared.places.Places.TheVariants as places

-- the cycle of a no is the one on the way back from the lowest point that no order can place, along the arrows between points
abbrev pub HasBackCircle : History → Places → Type 0
HasBackCircle h (places.Yes spans) = ⊤
HasBackCircle h (places.NoFault fault) = ⊤
HasBackCircle h (places.NoCycle points) = IsBackCircle IsLower (IsArrow h) points
