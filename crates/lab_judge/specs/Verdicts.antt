-- Which verdicts say yes, and what a snapshot yes denies.
use Rattle.std.specs.Prelude.{ℕ, List, ⊤}
use Rattle.lab_history.specs.History.{History}
use Rattle.lab_order.specs.Least.{NotAfter}
use Rattle.lab_judge.specs.Runs.{HoldsEachOnce}
use Rattle.lab_judge.specs.Places.{IsCircle, IsForwardOrder}
use Rattle.lab_judge.specs.declared.places.Point.{Point}
use Rattle.lab_judge.specs.declared.serial.Serial.{Serial}
use Rattle.lab_judge.specs.declared.serial.Serial.TheVariants as serial
use Rattle.lab_judge.specs.declared.places.Places.{Places}
use Rattle.lab_judge.specs.declared.places.Places.TheVariants as places

-- a yes
abbrev pub IsYes : Serial → Type 0
IsYes (serial.Yes order) = ⊤
IsYes (serial.NoFault fault) = ⊥
IsYes (serial.NoCycle walk) = ⊥

-- a yes with places
abbrev pub IsPlaced : Places → Type 0
IsPlaced (places.Yes spans) = ⊤
IsPlaced (places.NoFault fault) = ⊥
IsPlaced (places.NoCycle points) = ⊥

-- no points are a cycle
abbrev pub NoCircle : History → Type 0
NoCircle h = (ps : List Point) → IsCircle h ps → ⊥

-- the order of a yes is, number by number from the front, the least of those that have each committed transaction once and along which every edge points forward
abbrev pub IsLeastOrder : History → Serial → Type 0
IsLeastOrder h (serial.Yes order) = (other : List ℕ) → HoldsEachOnce h other → IsForwardOrder h other → NotAfter order other
IsLeastOrder h (serial.NoFault fault) = ⊤
IsLeastOrder h (serial.NoCycle walk) = ⊤
