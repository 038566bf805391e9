-- What a sink holds after a text was written to it.
use Rattle.std.specs.Prelude.{ℕ, ◌+◌, ◌≤◌, ◌≡◌, Bool, true, false, List, ◌++◌, length, map, MatchBool}

-- where a text was taken, it stands behind an older one, as far as its bytes are kept; it is refused only where both together have so many bytes as this limit
abbrev pub Puts : (ℕ → ℕ) → ℕ → Bool → List ℕ → List ℕ → List ℕ → Type 0
Puts kept limit taken old text new = MatchBool taken (new ≡ old ++ map kept text) (limit ≤ length old + length text)

-- what is known where a text was taken
abbrev pub OnTaken : Bool → Type 0 → Type 0
OnTaken true Known = Known
OnTaken false Known = Unit {0}
