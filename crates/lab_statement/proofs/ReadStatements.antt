-- Statements of the grammar are read, and what is read is one.
use Rattle.lab_statement.proofs.Common.{◌≡◌, ◌≤◌, List, [], ◌∷◌, ◌++◌, length, None, refl, append_assoc, ℤ, le-leb, Statement, Expr, Token, IsNumber, IsExpr, IsStatement, IsEnd, IsWholeStatement, printed_statement, after, Reads, name_read, expr_read, select_read, update_read, insert_read, delete_read, statement_read, end_read, whole_statement_read}
use Rattle.lab_table.specs.declared.word.Word.TheVariants as word
use Rattle.lab_statement.specs.declared.token.Token.TheVariants as token
use Rattle.lab_statement.specs.Grammar as grammar
use Rattle.lab_statement.proofs.Takes.{Any, gives_of}
use Rattle.lab_statement.proofs.StatementTaken.{whole_gives}
use Rattle.lab_statement.proofs.ReadNumbers.{number_again}
use Rattle.lab_statement.proofs.ReadRows.{row_again}
use Rattle.lab_statement.proofs.ReadPredicates.{IsUnjoined, where_again}

-- the new value of an update

no_value : {ts : List Token} {z : ℤ} → IsNumber ts z → (rest : List Token) → after (token.Word word.Value) (ts ++ rest) ≡ None
no_value (grammar.positive n le) rest = refl
no_value (grammar.negative n le) rest = refl

pub expr_again : {ts : List Token} {e : Expr} → IsExpr ts e → (rest : List Token) → expr_read (ts ++ rest) ≡ Reads (e, rest)
unfolding expr_read
expr_again (grammar.set h) rest = rw (expr_read, no_value h rest, number_again h rest) refl
expr_again (grammar.plus h) rest = rw (number_again h rest) refl
expr_again (grammar.minus h) rest = rw (number_again h rest) refl

-- the four kinds of statement

-- a statement of the grammar is read
pub statement_again : {ts : List Token} {s : Statement} → IsStatement ts s → (rest : List Token) → IsUnjoined rest → statement_read (ts ++ rest) ≡ Reads (s, rest)
unfolding statement_read select_read update_read insert_read delete_read name_read
statement_again (grammar.select table h) rest none = rw (where_again h rest none) refl
statement_again (grammar.update {es} {ts} table g h) rest none = rw (append_assoc es ts rest, expr_again g (ts ++ rest), where_again h rest none) refl
statement_again (grammar.insert table h) rest none = rw (row_again h rest) refl
statement_again (grammar.delete table h) rest none = rw (where_again h rest none) refl

-- the end of a statement

-- what may stand behind a statement: nothing, or a semicolon
pub data Closes : List Token → Type 0 where
  nothing : Closes []
  semicolon : (rest : List Token) → Closes (token.Semicolon ∷ rest)

pub unjoined : {rest : List Token} → Closes rest → IsUnjoined rest
unjoined nothing = (refl, refl, refl)
unjoined (semicolon rest) = (refl, refl, refl)

-- one statement, and nothing else

parts_again : (ts front end : List Token) (s : Statement) → ts ≡ front ++ end → IsStatement front s → IsEnd end → length (printed_statement s) ≤ 1000 → whole_statement_read ts ≡ Reads s
unfolding whole_statement_read end_read
parts_again ts front _ s is h grammar.open_end le = rw (is, statement_again h [] (unjoined nothing), le-leb (length (printed_statement s)) 1000 le) refl
parts_again ts front end s is h grammar.semicolon le = rw (is, statement_again h end (unjoined (semicolon [])), le-leb (length (printed_statement s)) 1000 le) refl

-- one statement of the grammar is read
pub whole_again : {ts : List Token} {s : Statement} → IsWholeStatement ts s → whole_statement_read ts ≡ Reads s
whole_again {ts} {s} h = parts_again ts h.parts.0 h.parts.1 s h.parts.2 h.parts.3 h.parts.4 h.printed

-- what is read as one statement is one of the grammar
pub whole_takes : (ts : List Token) (s : Statement) → whole_statement_read ts ≡ Reads s → IsWholeStatement ts s
whole_takes ts s e = gives_of s (whole_gives {Fault = Any} tt tt tt tt ts (λ long. tt)) e
