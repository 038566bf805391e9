use Rattle.std.proofs.Common.{◌≡◌, ◌<◌, ℕ, false, not, length, get_or}
use Rattle.lab_columns.proofs.answers.each_negated.Given as goal

abbrev pub invariant-loop-place : goal.invariant-loop-place
invariant-loop-place l = (length l.negated ≡ 64) × ((k : ℕ) → k < l.place → get_or l.negated k false ≡ not (get_or l.answers k false))
