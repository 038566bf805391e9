use Rattle.std.{proofs.Common.{◌≡◌, ◌<◌, ℕ, pos, false, length, get_or}, specs.{Prelude.{int_rem}, Ordering.{int_eq}}}
use Rattle.lab_columns.proofs.comparisons.each_leaving.Given as goal

abbrev pub invariant-loop-place : goal.invariant-loop-place
invariant-loop-place l = (length l.answers ≡ 64) × ((k : ℕ) → k < l.place → get_or l.answers k false ≡ int_eq (int_rem (get_or l.numbers k (pos 0)) (pos l.modulus)) l.rest)
