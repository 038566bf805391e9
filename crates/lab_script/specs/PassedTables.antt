-- The tables named among the tokens that were read before reading stopped.
use Rattle.std.specs.Prelude.{ℕ, Bool, true, false, not, ◌&&◌, if◌then◌else◌, List, [], ◌∷◌, Option, Some, None, is_some}
use Rattle.lab_table.specs.TableName.{test_name}
use Rattle.lab_table.specs.declared.word.Word.TheVariants as word
use Rattle.lab_statement.specs.declared.token.Token.{Token}
use Rattle.lab_statement.specs.declared.token.Token.TheVariants as token
use Rattle.lab_statement.specs.Reading.{is_token}
use Rattle.lab_script.specs.Tables.{with_all}

-- the name of a table that a token is, if it is one
abbrev pub token_table : Token → Option (List ℕ)
token_table (token.Name n) = Some n
token_table t = None

-- whether the next token of a line is a word of a level or a value, behind a set, and names no table
abbrev pub is_behind_set : Bool → Token → Bool
is_behind_set behind t = if is_token t (token.Word word.Set) then true else if is_token t token.Semicolon then false else behind

-- the table that a token of a line of statements names, where it stands behind a set or not
abbrev pub statement_table : Bool → Token → Option (List ℕ)
statement_table behind t = if behind then None else token_table t

-- the tables that the tokens of a line of statements name, of which the first may stand behind a set
abbrev pub statement_tables : Bool → List Token → List (Option (List ℕ))
statement_tables behind [] = []
statement_tables behind (t ∷ ts) = statement_table behind t ∷ statement_tables (is_behind_set behind t) ts

-- the table that a setup's token names, where a parenthesis with no name before it opens a row of test
abbrev pub setup_table : Bool → Token → Option (List ℕ)
setup_table named t = if is_token t token.Open && not named then Some test_name else token_table t

-- the tables that a setup's tokens name, where a name stands before the first or not
abbrev pub setup_tables : Bool → List Token → List (Option (List ℕ))
setup_tables named [] = []
setup_tables named (t ∷ ts) = setup_table named t ∷ setup_tables (is_some (token_table t)) ts

-- names with those that some things name
abbrev pub with_named : List (List ℕ) → List (Option (List ℕ)) → List (List ℕ)
with_named names named = with_all (λ name. name) names named

-- names with those among the tokens of a line of statements
abbrev pub with_tokens : List (List ℕ) → List Token → List (List ℕ)
with_tokens names ts = with_named names (statement_tables false ts)

-- names with those among a setup's tokens
abbrev pub with_setup_tokens : List (List ℕ) → List Token → List (List ℕ)
with_setup_tokens names ts = with_named names (setup_tables false ts)
