-- The result of reading the bytes of a file.
use Rattle.std.specs.Prelude.{◌≡◌, ◌⊎◌, ℕ, List, Some, None, Result, Ok, Err, IsUtf8}
use Rattle.serde_json.specs.Data.{Data}
use Rattle.serde_json.specs.Read.{read}
use Rattle.lab_history.specs.declared.fault.FileFault.{FileFault}
use Rattle.lab_history.specs.declared.fault.FileFault.TheVariants as fault

-- the bytes are the text of a JSON value
abbrev pub IsTextOf : List ℕ → Data → Type 0
IsTextOf bytes d = IsUtf8 bytes × (read bytes ≡ Some d)

-- they are the text of none
abbrev pub IsNoText : List ℕ → Type 0
IsNoText bytes = IsUtf8 bytes → read bytes ≡ None

-- what a reader of values makes of the bytes, unless memory runs out
abbrev pub ReadsAs : {X : Type 0} → (Data → Result X FileFault) → List ℕ → Result X FileFault → Type 0
ReadsAs reader bytes (Ok x) = (d : Data) × IsTextOf bytes d × (reader d ≡ Ok x)
ReadsAs reader bytes (Err f) = (f ≡ fault.NoMemory) ⊎ ((f ≡ fault.NotJson) × IsNoText bytes) ⊎ ((d : Data) × IsTextOf bytes d × (reader d ≡ Err f))
