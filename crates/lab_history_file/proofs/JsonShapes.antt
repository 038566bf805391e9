-- JSON values of a kind, and objects with given keys.
use Rattle.std.{proofs.{Common.{◌≡◌, ℕ, true, List, [], ◌∷◌, Option, Some, None, Ok, refl, ap, ◌∙◌, bytes_eq}, lemmas.{Bool.{and_parts}, Slice.Eq.{bytes_eq-Decides}}}, specs.Prelude.{⊤}}
use Rattle.serde_json.specs.{Data.{Data, null, boolean, number, string, array, object, Items, Members, no_members, member}, Find.{as_array, as_str, as_object}}
use Rattle.lab_history_file.specs.Format.{are_keys, has_keys, keyed}
use Rattle.lab_history.{specs.declared.path.Path.{Path}, proofs.Steps.{required_ok, when_found}}

pub array_of : (d : Data) (ds : Items) → as_array d ≡ Some ds → d ≡ array ds
array_of null ds e = absurd cc
array_of (boolean b) ds e = absurd cc
array_of (number n) ds e = absurd cc
array_of (string s) ds e = absurd cc
array_of (array es) ds e = cc
array_of (object ms) ds e = absurd cc

pub string_of : (d : Data) (text : List ℕ) → as_str d ≡ Some text → d ≡ string text
string_of null text e = absurd cc
string_of (boolean b) text e = absurd cc
string_of (number n) text e = absurd cc
string_of (string s) text e = cc
string_of (array es) text e = absurd cc
string_of (object ms) text e = absurd cc

-- a value built of members with these keys and some values
abbrev pub Shaped : List (List ℕ) → (Members → Data) → Data → Type 0
Shaped [] build d = d ≡ build no_members
Shaped (key ∷ keys) build d = (value : Data) × Shaped keys (λ ms. build (member key value ms)) d

-- members with these keys build such a value
shaped : (keys : List (List ℕ)) (build : Members → Data) (ms : Members) (d : Data) → d ≡ build ms → are_keys keys ms ≡ true → Shaped keys build d
shaped [] build no_members d is e = is
shaped [] build (member k value ms) d is e = absurd cc
shaped (key ∷ keys) build no_members d is e = absurd cc
shaped (key ∷ keys) build (member k value ms) d is e =
    let parts = and_parts (bytes_eq k key) _ e in
    let same = (bytes_eq-Decides k key).0 parts.0 in
    (value, shaped keys (λ rest. build (member key value rest)) ms d (is ∙ ap (λ l. build (member l value ms)) same) parts.1)

has_all : (keys : List (List ℕ)) (o : Option Members) → has_keys keys o ≡ true → (ms : Members) × (o ≡ Some ms) × (are_keys keys ms ≡ true)
has_all keys None e = absurd cc
has_all keys (Some ms) e = (ms, refl, e)

object_of : (d : Data) (ms : Members) → as_object d ≡ Some ms → d ≡ object ms
object_of null ms e = absurd cc
object_of (boolean b) ms e = absurd cc
object_of (number n) ms e = absurd cc
object_of (string s) ms e = absurd cc
object_of (array es) ms e = absurd cc
object_of (object ns) ms e = cc

-- an object with the keys that were looked for
pub keyed_shape : (place : Path) (keys : List (List ℕ)) (d : Data) (u : ⊤) → keyed place keys d ≡ Ok u → Shaped keys (λ ms. object ms) d
keyed_shape place keys d u e =
    let has = has_all keys (as_object d) (when_found _ tt u (required_ok place _ u e)).0 in
    shaped keys (λ ms. object ms) has.0 d (object_of d has.0 has.1) has.2
