-- Tokens of numbers, and what they are read as. Only private clauses cite it.
use Rattle.std.specs.Prelude.{◌≡◌, ℕ, ℤ, ◌+◌, ◌-◌, ◌*◌, List, [], ◌∷◌, if◌then◌else◌, Some, option_and_then}
use Rattle.std.specs.Char.{is_ascii_digit}
use Rattle.json.specs.Token.{Token}
use Rattle.serde_json.specs.Data.{unsigned}
use Rattle.serde_json.specs.Find.{as_i64}
use Rattle.serde_json.specs.Read.{number_of}

-- the number that digits at the front spell, after those of n, and what follows them
abbrev pub digits_on : ℕ → List ℕ → ℕ × List ℕ
digits_on n [] = (n, [])
digits_on n (b ∷ bs) = if is_ascii_digit b then digits_on (n * 10 + (b - 48)) bs else (n, b ∷ bs)

-- the first of the tokens `old` is this number, and the others are `new`
pub record NumberTaken {N : Type 0} (Is : List ℕ → N → Type 0) (old new : List Token) (number : N) : Type 0 where
  pub text : List ℕ
  pub taken : old ≡ Token.number text ∷ new
  pub is : Is text number

abbrev pub IsWhole : List Token → List Token → ℕ → Type 0
IsWhole = NumberTaken (λ text n. number_of text ≡ Some (unsigned n))

abbrev pub IsInteger : List Token → List Token → ℤ → Type 0
IsInteger = NumberTaken (λ text z. option_and_then as_i64 (number_of text) ≡ Some z)
