-- What all plays have in common: the rows of the setup, and the first installed writes.
use Rattle.std.specs.Prelude.{◌≡◌, ℕ, ⊤, Option, Some, None, List, [], ◌∷◌, take}
use Rattle.std.specs.List.{All}
use Rattle.lab_compare.specs.declared.side.Side.{Side}

-- two plays begin with the same rows, and install so many writes alike from the front
abbrev pub BeginSame : ℕ → Side → Side → Type 0
BeginSame count one other = (one.commits.first ≡ other.commits.first) × (take count one.commits.installs ≡ take count other.commits.installs)

-- all plays do, if a number is given
abbrev pub Share : Option ℕ → List Side → Type 0
Share None sides = ⊤
Share (Some count) [] = ⊤
Share (Some count) (first ∷ others) = All (BeginSame count first) others
