-- What was read where a reading of several parts has a value.
use Rattle.lab_statement.proofs.Common.{◌≡◌, List, Some, ap, Token, ScriptFaultKind, Refusal, Reading, Reads, Stops, StopsAt, read_value}
use Rattle.lab_statement.specs.declared.fault.Refusal.TheVariants as refusal

-- Reads as a function
abbrev pub reads : {A : Type 0} → A → Reading A
reads x = Reads x

-- what is read is one
pub reads_is : {A : Type 0} (x y : A) → Reads x ≡ Reads y → x ≡ y
reads_is x y e = cc

-- what stops wherever a reading does stops as that reading does
pub stops_as : {A B : Type 0} (e : Refusal) (left : List Token) (r : Reading A) → StopsAt e left r → (s : Reading B) → ((kind : ScriptFaultKind) → r ≡ Stops kind left → s ≡ Stops kind left) → StopsAt e left s
stops_as refusal.NoMemory left r h s f = tt
stops_as (refusal.Fault kind) left r h s f = f kind h

-- what has a value was read
pub valued : {X : Type 0} (r : Reading X) (x : X) → read_value r ≡ Some x → r ≡ Reads x
valued (Reads y) x is = let same : y ≡ x = cc in ap reads same
valued (Stops kind left) x is = absurd cc
