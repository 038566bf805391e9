-- Numbers with commas between them: one or more.
use Rattle.lab_statement.proofs.Common.{List, [], ◌∷◌, ◌++◌, ℤ, Token, IsNumber, IsNumberList}
use Rattle.lab_statement.specs.declared.token.Token.TheVariants as token
use Rattle.lab_statement.specs.Grammar as grammar

-- number { ',' number }
pub data IsNumbers : List Token → List ℤ → Type 0 where
  one : {ts : List Token} {z : ℤ} → IsNumber ts z → IsNumbers ts (z ∷ [])
  others : {ts rest : List Token} {z : ℤ} {zs : List ℤ} → IsNumber ts z → IsNumbers rest zs → IsNumbers (ts ++ token.Comma ∷ rest) (z ∷ zs)

-- they are a list of numbers
pub are_list : {ts : List Token} {zs : List ℤ} → IsNumbers ts zs → IsNumberList ts zs
are_list (one is) = grammar.last is
are_list (others is (one rest)) = grammar.more is (grammar.last rest)
are_list (others is (others rest more)) = grammar.more is (are_list (others rest more))

-- a list of numbers that isn't empty is such
pub list_are : {ts : List Token} {z : ℤ} {zs : List ℤ} → IsNumberList ts (z ∷ zs) → IsNumbers ts (z ∷ zs)
list_are (grammar.last is) = one is
list_are (grammar.more is rest) = others is (list_are rest)
