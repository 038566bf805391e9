-- Which text spells a statement.
use Rattle.std.specs.Prelude.{◌≡◌, ℕ, ◌≤◌, ◌<◌, ◌⊎◌, Bool, true, false, ◌&&◌, ◌||◌, ◌==◌, nat_le, if◌then◌else◌, List, [], ◌∷◌, ◌++◌, length, drop, slice_get, Some, ◌+◌}
use Rattle.std.specs.List.{list_all}
use Rattle.lab_table.specs.declared.statement.Statement.{Statement}
use Rattle.lab_table.specs.declared.word.Word.TheVariants as word
use Rattle.lab_statement.specs.declared.token.Token.{Token}
use Rattle.lab_statement.specs.declared.token.Token.TheVariants as token
use Rattle.lab_statement.specs.Token.{tokens}
use Rattle.lab_statement.specs.TokensOf.{AreTokens}
use Rattle.lab_statement.specs.Grammar.{IsStatement, IsEnd}
use Rattle.lab_printing.specs.Printed.{printed_statement}
use Rattle.lab_printing.specs.Limits.{max_line_bytes, max_statement_bytes}

-- whether a remark begins here
abbrev pub begins_remark : List ℕ → Bool
begins_remark [] = false
begins_remark (a ∷ []) = false
begins_remark (a ∷ b ∷ bytes) = a == 45 && b == 45

-- the code of a line: what stands before its first two dashes
abbrev pub code_of : List ℕ → List ℕ
code_of [] = []
code_of (b ∷ bytes) = if begins_remark (b ∷ bytes) then [] else b ∷ code_of bytes

-- the remark of a line: what stands behind its first two dashes
abbrev pub remark_of : List ℕ → List ℕ
remark_of [] = []
remark_of (b ∷ bytes) = if begins_remark (b ∷ bytes) then drop 1 bytes else remark_of bytes

-- a tab or a byte that is printed
abbrev pub is_code_byte : ℕ → Bool
is_code_byte b = b == 9 || (nat_le 32 b && nat_le b 126)

-- the tokens of a statement's text: those of its code, and one that is none where two dashes stand behind it
abbrev pub AreStatementTokens : List ℕ → List Token → Type 0
AreStatementTokens text ts =
    ((code_of text ≡ text) × (ts ≡ tokens text))
    ⊎ ((code_of text ≡ text → ⊥) × (ts ≡ tokens (code_of text) ++ token.Unknown ∷ []))

-- whether a where stands among tokens
abbrev pub HasWhere : List Token → Type 0
HasWhere ts = (front rest : List Token) × (ts ≡ front ++ token.Word word.Where ∷ rest)

-- tokens that begin with a statement whose printed form is over its limit
pub record BeginsLongStatement (ts : List Token) : Type 0 where
  pub statement : Statement
  pub front : List Token
  pub behind : List Token
  pub whole : ts ≡ front ++ behind
  pub spelled : IsStatement front statement
  pub long : max_statement_bytes < length (printed_statement statement)

-- the text spells the statement: it has no two dashes side by side, which would begin a remark, and its tokens are those of the statement
pub record SpellsStatement (text : List ℕ) (s : Statement) : Type 0 where
  pub bytes : length text ≤ max_line_bytes
  pub ascii : list_all is_code_byte text ≡ true
  pub no_remark : (n : ℕ) → slice_get text n ≡ Some 45 → slice_get text (n + 1) ≡ Some 45 → ⊥
  pub parts : (ts end : List Token) × AreTokens text (ts ++ end) × IsStatement ts s × IsEnd end
  pub printed : length (printed_statement s) ≤ max_statement_bytes
