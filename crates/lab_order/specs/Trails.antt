-- Paths and cycles of steps of any kind, over elements of any type.
--
-- Origin: graph theory.
use Rattle.std.specs.Prelude.{◌≡◌, ℕ, ◌≤◌, List, [], ◌∷◌, ◌++◌, take, drop, ⊤}
use Rattle.std.specs.List.{All}

-- from one along these to another: from each a step leads to the next, and from the last to the other
abbrev pub IsTrailBy : {X : Type 0} → (X → X → Type 0) → X → List X → X → Type 0
IsTrailBy IsStep from [] to = IsStep from to
IsTrailBy IsStep from (x ∷ xs) to = IsStep from x × IsTrailBy IsStep x xs to

-- a ring: not empty, from each a step leads to the next, and from the last to the first
abbrev pub IsRing : {X : Type 0} → (X → X → Type 0) → List X → Type 0
IsRing IsStep [] = ⊥
IsRing IsStep (x ∷ xs) = IsTrailBy IsStep x xs x

-- from one along these: from each a step leads to the next
abbrev pub IsChainBy : {X : Type 0} → (X → X → Type 0) → X → List X → Type 0
IsChainBy IsStep from [] = ⊤
IsChainBy IsStep from (x ∷ xs) = IsStep from x × IsChainBy IsStep x xs

-- the first is less than all others
abbrev pub HasLeastFirst : {X : Type 0} → (X → X → Type 0) → List X → Type 0
HasLeastFirst IsLess [] = ⊤
HasLeastFirst IsLess (x ∷ xs) = All (λ y. IsLess x y) xs

-- the same nodes in the same round, maybe beginning with another
abbrev pub IsTurn : List ℕ → List ℕ → Type 0
IsTurn nodes turned = (place : ℕ) × (turned ≡ drop place nodes ++ take place nodes)

-- none is less than the first
abbrev pub BeginsWithLeast : List ℕ → Type 0
BeginsWithLeast [] = ⊤
BeginsWithLeast (n ∷ ns) = All (λ m. n ≤ m) ns
