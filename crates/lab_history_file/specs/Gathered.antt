-- The members of an object, read in any order. Only private clauses cite it.
use Rattle.std.specs.Prelude.{ℕ, suc, List}
use Rattle.json.specs.Token.{Token}
use Rattle.serde_json.specs.Data.{Data, Members, no_members, object, put}
use Rattle.lab_history_file.specs.Spelled.{Spells}

-- the tokens `old` are a value and then `new`, and the fields hold it as the member at this key
abbrev pub TakesMember : {F : Type 0} → ℕ → (Members → F → Type 0) → List ℕ → List Token → List Token → F → F → Type 0
TakesMember levels Hold key old new before after = (d : Data) × Spells levels old new d × ((ms : Members) → Hold ms before → Hold (put key d ms) after)

-- the tokens `old` are an object and then `new`, and fields that held no members hold those of the object
abbrev pub TakesObject : {F : Type 0} → ℕ → (Members → F → Type 0) → List Token → List Token → F → F → Type 0
TakesObject levels Hold old new before after = (ms : Members) × Spells (suc levels) old new (object ms) × (Hold no_members before → Hold ms after)
