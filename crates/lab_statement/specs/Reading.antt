-- Reading tokens from left to right: a value and the tokens after it, or nothing.
use Rattle.std.specs.Prelude.{Bool, if◌then◌else◌, List, [], ◌∷◌, Option, Some, None}
use Rattle.lab_statement.specs.declared.token.Token.{Token}
use Rattle.lab_statement.specs.contracts.token.TokenPartialEq.TheImpl as compared

-- whether two tokens are one
abbrev pub is_token : Token → Token → Bool
is_token = compared.ghosts.eq

-- what follows this token
abbrev pub after : Token → List Token → Option (List Token)
after t [] = None
after t (u ∷ us) = if is_token t u then Some us else None
