use Rattle.std.proofs.Common.{◌≡◌, ◌<◌, ℕ, ℤ, pos, length, get_or}
use Rattle.lab_table.specs.Row.{Row}
use Rattle.lab_columns.proofs.block.Block.of_ids.Given as goal

abbrev pub invariant-loop-place : goal.invariant-loop-place
invariant-loop-place l = (length l.numbers ≡ 64) × ((k : ℕ) (d : Row × ℤ) → k < l.place → get_or l.numbers k (pos 0) ≡ pos (get_or l.rows k d).0.id)
