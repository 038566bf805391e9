use Rattle.std.proofs.Common.{◌≡◌, ◌<◌, ℕ, pos, true, get_or}
use Rattle.std.specs.Prelude.{int_le}
use Rattle.lab_columns.proofs.block.least.Given as goal

-- none of the numbers so far is less
abbrev pub invariant-loop-place : goal.invariant-loop-place
invariant-loop-place l = (k : ℕ) → k < l.place → int_le l.least (get_or l.numbers k (pos 0)) ≡ true
