use Rattle.std.{proofs.Common.{◌≡◌, ◌<◌, ℕ, pos, false, length, get_or}, specs.Ordering.{int_eq}}
use Rattle.lab_columns.proofs.comparisons.each_equal.Given as goal

abbrev pub invariant-loop-place : goal.invariant-loop-place
invariant-loop-place l = (length l.answers ≡ 64) × ((k : ℕ) → k < l.place → get_or l.answers k false ≡ int_eq (get_or l.numbers k (pos 0)) l.number)
