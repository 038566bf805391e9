-- Texts that a call appends.
use Rattle.std.{proofs.Common.{◌≡◌, ℕ, List, Result, Ok, Err, is_ok, if◌then◌else◌}, specs.Prelude.{OnOk}}

-- what a vector has behind its old items after a call that was granted
pub appended : {X E : Type 0} (r : Result X E) (new whole old : List ℕ) → new ≡ (if is_ok r then whole else old) → OnOk r (new ≡ whole)
appended (Ok x) new whole old is = is
appended (Err e) new whole old is = tt
