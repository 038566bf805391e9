-- The keys of objects.
use Rattle.std.{proofs.Common.{◌≡◌, ◌<◌, ℕ, zero, suc, List, [], ◌∷◌, ◌&&◌, length, map, drop, Bool, true, false, refl, arith, String, Global}, specs.{Prelude.{string_bytes}, Map.{keys_of}, Str.{bytes_eq}}}
use Rattle.serde_json.specs.{declared.value.Value.{Value}, View.{members_view}}
use Rattle.lab_history_file.specs.Format.{are_keys}

-- whether keys are these names, in order
abbrev pub same_keys : List (List ℕ) → List (String Global) → Bool
same_keys [] [] = true
same_keys [] (key ∷ keys) = false
same_keys (name ∷ names) [] = false
same_keys (name ∷ names) (key ∷ keys) = bytes_eq (string_bytes key) name && same_keys names keys

-- an object has these keys where its keys are these names
pub keys_are : (names : List (List ℕ)) (members : List (String Global × Value)) → same_keys names (keys_of members) ≡ are_keys names (members_view members)
keys_are [] [] = refl
keys_are [] (m ∷ ms) = refl
keys_are (name ∷ names) [] = refl
keys_are (name ∷ names) (m ∷ ms) = rw (keys_are names ms) refl

-- where a name is left and no key
pub no_key_left : {A : Type 0} (f : A → List ℕ) (names : List A) (i : ℕ) (keys : List (String Global)) → i < length names → keys ≡ []
    → same_keys (map f (drop i names)) keys ≡ false
no_key_left f [] i keys below none = absurd (omega (arith, below))
no_key_left f (name ∷ names) zero keys below none = rw none refl
no_key_left f (name ∷ names) (suc i) keys below none = no_key_left f names i keys (omega (arith, below)) none
