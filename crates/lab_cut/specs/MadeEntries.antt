-- The entries made from the entries of a list.
use Rattle.std.specs.Prelude.{Option, Some, None, List, [], ◌∷◌}

-- a key's value before other entries, if it has one
abbrev pub with_value : {K V : Type 0} → K → Option V → List (K × V) → List (K × V)
with_value key None rest = rest
with_value key (Some value) rest = (key, value) ∷ rest

-- each key with what is made of its value, where something is
abbrev pub made_entries : {K U V : Type 0} → (K → U → Option V) → List (K × U) → List (K × V)
made_entries make [] = []
made_entries make (e ∷ es) = with_value e.0 (make e.0 e.1) (made_entries make es)
