-- A stream to which nothing was written.
use Rattle.std.{proofs.Common.{ℕ, List, refl}, specs.{Prelude.{Option, Some, None, Result, Ok, Err, OnErr}, Io.KnownBytes.{Keeps}}}

pub kept : (known : Option (List ℕ)) → Keeps known known
kept None = tt
kept (Some bytes) = refl

-- what holds is there also where a call was refused
pub where_refused : {T E P : Type 0} → P → (result : Result T E) → OnErr result P
where_refused holds (Ok value) = tt
where_refused holds (Err fault) = holds
