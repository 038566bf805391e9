-- What is read from an input: at most 8,388,609 bytes, one more than a history file may have.
use Rattle.std.specs.Prelude.{◌≡◌, ◌≢◌, ◌⊎◌, ℕ, ◌+◌, List, ◌++◌, take, Option, IfSome, Result, MatchResult}
use Rattle.std.specs.Io.KnownBytes.{Consumes}
use Rattle.lab_history.specs.Limits.{max_file_bytes}
use Rattle.lab_streams.specs.declared.ending.RunFault.{RunFault}
use Rattle.lab_streams.specs.declared.ending.RunFault.TheVariants.{Unwritten}

-- the most bytes that are read: one more than a history file may have, so that a longer one shows
abbrev pub max_input_bytes : ℕ
max_input_bytes = max_file_bytes + 1

-- what is read of the bytes that there are
abbrev pub read_of : List ℕ → List ℕ
read_of bytes = take max_input_bytes bytes

-- some bytes went from a reader, which had `left` and has `rest`, to the end of those before
pub record Takes (left rest : Option (List ℕ)) (old new : List ℕ) : Type 0 where
  pub part : List ℕ
  pub grown : new ≡ old ++ part
  pub taken : Consumes left rest part

-- all that is read of an input was taken from its reader, which had `left` and has `rest`
abbrev pub IsReadOut : Option (List ℕ) → Option (List ℕ) → Type 0
IsReadOut left rest = IfSome left (λ input. Consumes left rest (read_of input))

-- a run that may have written something had taken all that is read of its input from the reader
abbrev pub ReadsFirst : {A : Type 0} → Result A RunFault → Option (List ℕ) → Option (List ℕ) → Type 0
ReadsFirst run left rest = MatchResult run (λ _. IsReadOut left rest) (λ fault. (fault ≢ Unwritten) ⊎ IsReadOut left rest)
