-- Elements that no order along arrows can place, and the cycle that is found by going back from the least of them,
-- each time to the least predecessor. Elements may be of any type with an order.
use Rattle.std.specs.Prelude.{◌≡◌, Bool, List, [], ◌∷◌, IsTrue}
use Rattle.std.specs.List.{All}
use Rattle.lab_order.specs.Trails.{IsRing, HasLeastFirst}

-- none of these can come first: to each an arrow leads from one of them
abbrev pub AreKnotted : {X : Type 0} → (X → X → Type 0) → (X → Bool) → Type 0
AreKnotted {X} IsArrow these = (x : X) → IsTrue (these x) → (from : X) × IsTrue (these from) × IsArrow from x

-- one that no order can place: it is among things of which none can come first
abbrev pub IsStuck : {X : Type 0} → (X → X → Type 0) → X → Type 0
IsStuck {X} IsArrow x = (these : X → Bool) × IsTrue (these x) × AreKnotted IsArrow these

-- the least that no order can place
pub record IsLeastStuck {X : Type 0} (IsLess IsArrow : X → X → Type 0) (x : X) : Type 0 where
  pub stuck : IsStuck IsArrow x
  pub least : (y : X) → IsLess y x → ¬ IsStuck IsArrow y

-- back from one comes the least of the stuck ones from which an arrow leads to it
pub record IsBack {X : Type 0} (IsLess IsArrow : X → X → Type 0) (from x : X) : Type 0 where
  pub arrow : IsArrow from x
  pub stuck : IsStuck IsArrow from
  pub least : (y : X) → IsLess y from → IsArrow y x → ¬ IsStuck IsArrow y

-- one comes back from one along these to another
abbrev pub ComesBack : {X : Type 0} → (X → X → Type 0) → (X → X → Type 0) → X → List X → X → Type 0
ComesBack IsLess IsArrow x [] to = x ≡ to
ComesBack IsLess IsArrow x (y ∷ ys) to = IsBack IsLess IsArrow y x × ComesBack IsLess IsArrow y ys to

-- one comes from the least stuck one back to this
pub record IsMet {X : Type 0} (IsLess IsArrow : X → X → Type 0) (x : X) : Type 0 where
  pub start : X
  pub least : IsLeastStuck IsLess IsArrow start
  pub way : List X
  pub back : ComesBack IsLess IsArrow start way x

-- the cycle on the way back from the least stuck one: each comes back from the next, and the last from the first, and
-- the first is less than all others; so none is there twice
pub record IsBackCircle {X : Type 0} (IsLess IsArrow : X → X → Type 0) (circle : List X) : Type 0 where
  pub back : IsRing (IsBack IsLess IsArrow) circle
  pub first : HasLeastFirst IsLess circle
  pub met : All (IsMet IsLess IsArrow) circle
