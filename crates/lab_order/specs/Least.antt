-- The least of several lists, element by element.
--
-- Origin: lexicographic order.
use Rattle.std.specs.Prelude.{◌≡◌, ◌⊎◌, ℕ, ◌<◌, List, [], ◌∷◌, ⊤}

-- a list doesn't come after another, thing by thing as words in a dictionary, where this says which of two is less
abbrev pub NotAfterBy : {X : Type 0} → (X → X → Type 0) → List X → List X → Type 0
NotAfterBy IsLess [] other = ⊤
NotAfterBy IsLess (x ∷ xs) [] = ⊥
NotAfterBy IsLess (x ∷ xs) (y ∷ ys) = IsLess x y ⊎ ((x ≡ y) × NotAfterBy IsLess xs ys)

-- of the lists that are such, the least
pub record IsLeastBy {X : Type 0} (IsLess : X → X → Type 0) (IsOne : List X → Type 0) (list : List X) : Type 0 where
  pub is_one : IsOne list
  pub least : (other : List X) → IsOne other → NotAfterBy IsLess list other

-- a number is less than another
abbrev pub IsLess : ℕ → ℕ → Type 0
IsLess m n = m < n

-- a list of numbers doesn't come after another
abbrev pub NotAfter : List ℕ → List ℕ → Type 0
NotAfter ns ms = NotAfterBy IsLess ns ms

-- of the lists of numbers that are such, the least
abbrev pub IsLeast : (List ℕ → Type 0) → List ℕ → Type 0
IsLeast IsOne nodes = IsLeastBy IsLess IsOne nodes
