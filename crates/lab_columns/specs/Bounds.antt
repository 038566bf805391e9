-- Blocks of numbers, and their bounds.
use Rattle.std.specs.Prelude.{◌≡◌, ◌<◌, ℕ, pos, true, int_le, get_or}
use Rattle.lab_columns.specs.declared.block.Block.{Block}

-- each number of a block lies between its bounds
abbrev pub IsBounded : Block → Type 0
IsBounded b = (k : ℕ) → k < 64 → (int_le b.least (get_or b.numbers k (pos 0)) ≡ true) × (int_le (get_or b.numbers k (pos 0)) b.greatest ≡ true)
