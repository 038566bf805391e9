-- Reading that ends at its first fault.
use Rattle.std.specs.Prelude.{◌≡◌, ◌⊎◌, ⊤, Bool, true, false, Option, Some, None, Result, Ok, Err}
use Rattle.lab_history.specs.declared.fault.FileFault.{FileFault}
use Rattle.lab_history.specs.declared.fault.FileFault.TheVariants as fault
use Rattle.lab_history.specs.declared.path.Path.{Path}

-- what was read, and then what is read with it; the first fault ends it
infixl 10 ◌>>=◌
abbrev pub ◌>>=◌ : {A B : Type 0} → Result A FileFault → (A → Result B FileFault) → Result B FileFault
(Ok x) >>= f = f x
(Err e) >>= f = Err e

-- what has to be at a place
abbrev pub required : {A : Type 0} → Path → Option A → Result A FileFault
required place None = Err (fault.WrongFormat place)
required place (Some x) = Ok x

-- a fault, where the test is true
abbrev pub refused_if : Bool → FileFault → Result ⊤ FileFault
refused_if true e = Err e
refused_if false e = Ok tt

-- what a function returned, seen by view, is what reading gives, unless memory ran out
abbrev pub Gives : {X Y : Type 0} → (X → Y) → Result X FileFault → Result Y FileFault → Type 0
Gives view (Ok x) read = read ≡ Ok (view x)
Gives view (Err e) read = (e ≡ fault.NoMemory) ⊎ (read ≡ Err e)
