-- The keys of the objects of a history file, and objects with such keys.
use Rattle.std.specs.Prelude.{ℕ, List, [], ◌∷◌, codes}
use Rattle.serde_json.specs.Data.{Data, object, Members, no_members, member}

-- those of the whole
abbrev pub root_keys : List (List ℕ)
root_keys = codes "end" ∷ codes "format" ∷ codes "initial" ∷ codes "installed" ∷ codes "transactions" ∷ codes "version" ∷ []

-- those of a transaction
abbrev pub txn_keys : List (List ℕ)
txn_keys = codes "no" ∷ codes "ops" ∷ codes "outcome" ∷ []

-- those of an operation
abbrev pub op_keys : List (List ℕ)
op_keys = codes "rows" ∷ codes "statement" ∷ codes "view" ∷ codes "writes" ∷ []

-- the values at these keys
abbrev pub members_with : List (List ℕ) → List Data → Members
members_with [] values = no_members
members_with (key ∷ keys) [] = no_members
members_with (key ∷ keys) (value ∷ values) = member key value (members_with keys values)

-- the object with these values at these keys
abbrev pub object_with : List (List ℕ) → List Data → Data
object_with keys values = object (members_with keys values)
