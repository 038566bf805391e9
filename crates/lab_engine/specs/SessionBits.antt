-- Sets of sessions as the bits of a word.
use Rattle.std.specs.Prelude.{◌≤◌, ◌==◌, ℕ, Bool, IsTrue}
use Rattle.std.specs.Int.{bit_at}

-- whether a set has a session
unfoldable pub has : ℕ → ℕ → Bool
has set session = bit_at set session == 1

-- a set has only sessions
abbrev pub AreSessions : ℕ → Type 0
AreSessions set = (n : ℕ) → IsTrue (has set n) → (1 ≤ n) × (n ≤ 9)
