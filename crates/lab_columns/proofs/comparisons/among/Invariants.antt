use Rattle.std.proofs.Common.{◌≡◌, ◌<◌, ℕ, pos, get_or, take}
use Rattle.std.specs.{List.{list_any}, Ordering.{int_eq}}
use Rattle.lab_columns.specs.Answers.{answer_at}
use Rattle.lab_columns.proofs.comparisons.among.Given as goal

abbrev pub invariant-loop-number : goal.invariant-loop-number
invariant-loop-number l = (k : ℕ) → k < 64 → answer_at l.found k ≡ list_any (int_eq (get_or l.block.numbers k (pos 0))) (take l.number-index l.numbers)
