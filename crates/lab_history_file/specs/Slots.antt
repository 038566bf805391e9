-- The members of an object with known keys, of which some have been found. Only private clauses cite it.
use Rattle.std.specs.Prelude.{◌≡◌, ℕ, zero, suc, ⊤, List, [], ◌∷◌, Option, Some, None}
use Rattle.std.specs.Ordering.{nat_cmp}
use Rattle.std.specs.Cmp.Lexicographic.{slice_cmp}
use Rattle.std.specs.declared.cmp.Ordering.TheVariants.{Less, Equal, Greater}
use Rattle.serde_json.specs.Data.{Data, Members, no_members, member}

-- a member in front of others, if it was found
abbrev pub slot : List ℕ → Option Data → Members → Members
slot key None rest = rest
slot key (Some d) rest = member key d rest

-- the members at these keys that were found
abbrev pub slots : List (List ℕ) → List (Option Data) → Members
slots [] found = no_members
slots (key ∷ keys) [] = no_members
slots (key ∷ keys) (o ∷ found) = slot key o (slots keys found)

-- the list with this at an index
abbrev pub filled : ℕ → Data → List (Option Data) → List (Option Data)
filled n d [] = []
filled zero d (o ∷ found) = Some d ∷ found
filled (suc n) d (o ∷ found) = o ∷ filled n d found

-- a key comes before these keys
abbrev pub IsBefore : List ℕ → List (List ℕ) → Type 0
IsBefore key [] = ⊤
IsBefore key (other ∷ keys) = (slice_cmp nat_cmp key other ≡ Less) × IsBefore key keys

-- a key is the one at this index of rising keys
abbrev pub IsKeyAt : List ℕ → List (List ℕ) → ℕ → Type 0
IsKeyAt key [] n = ⊥
IsKeyAt key (other ∷ keys) zero = (key ≡ other) × (slice_cmp nat_cmp key key ≡ Equal) × IsBefore key keys
IsKeyAt key (other ∷ keys) (suc n) = (slice_cmp nat_cmp key other ≡ Greater) × IsKeyAt key keys n

-- a member was found where a field has a value for it
abbrev pub IsSlot : {X : Type 0} → (Data → X → Type 0) → Option Data → Option X → Type 0
IsSlot Is None None = ⊤
IsSlot Is None (Some x) = ⊥
IsSlot Is (Some d) None = ⊥
IsSlot Is (Some d) (Some x) = Is d x
