-- A row of the grammar is read.
use Rattle.lab_statement.proofs.{Common.{◌≡◌, ℕ, List, [], ◌∷◌, ◌++◌, refl, ◌∙◌, append_assoc, ℤ, Token, IsRow, Reads, row_read}, ReadNumbers.{number_again, positive_again}}
use Rattle.lab_statement.specs.declared.token.Token.TheVariants as token
use Rattle.lab_statement.specs.Grammar as grammar

-- the parts of a row, and what follows it
pub parts_of : (is vs rest : List Token) → is ++ token.Comma ∷ vs ++ token.Close ∷ [] ++ rest ≡ is ++ (token.Comma ∷ (vs ++ token.Close ∷ rest))
parts_of is vs rest = append_assoc (is ++ token.Comma ∷ vs) (token.Close ∷ []) rest ∙ append_assoc is (token.Comma ∷ vs) (token.Close ∷ rest)

-- a row of the grammar is read, whatever follows it
pub row_again : {ts : List Token} {id : ℕ} {value : ℤ} → IsRow ts id value → (rest : List Token) → row_read (ts ++ rest) ≡ Reads ((id, value), rest)
unfolding row_read
row_again (grammar.row {is} {vs} (grammar.named id i low high) v) rest =
    rw (parts_of is vs rest, positive_again 999999 id i low high (token.Comma ∷ (vs ++ token.Close ∷ rest)), number_again v (token.Close ∷ rest)) refl
