use Rattle.std.proofs.Common.{◌≡◌, ◌<◌, ℕ, false, ◌||◌, length, get_or}
use Rattle.lab_columns.proofs.answers.each_either.Given as goal

abbrev pub invariant-loop-place : goal.invariant-loop-place
invariant-loop-place l = (length l.any ≡ 64) × ((k : ℕ) → k < l.place → get_or l.any k false ≡ (get_or l.answers k false || get_or l.others k false))
