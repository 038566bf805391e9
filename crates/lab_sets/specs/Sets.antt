-- Sets of numbers as words of 64 bits.
use Rattle.std.specs.Prelude.{ℕ, ◌+◌, ◌*◌, ◌/◌, ◌%◌, ◌==◌, Bool, List, length, get_or}
use Rattle.std.specs.Int.{bit_at}

-- whether a set has a number
unfoldable pub has : List ℕ → ℕ → Bool
has words n = bit_at (get_or words (n / 64) 0) (n % 64) == 1

-- numbers below this one have a bit
abbrev pub room : List ℕ → ℕ
room words = 64 * length words

-- the room of a set for the numbers below a bound
abbrev pub room_for : ℕ → ℕ
room_for bound = 64 * (bound / 64 + 1)
