-- Which text spells which script.
use Rattle.std.specs.Prelude.{◌≡◌, ℕ, ℤ, ◌+◌, ◌-◌, ◌≤◌, ◌<◌, Bool, true, false, not, ◌&&◌, ◌||◌, ◌==◌, nat_le, if◌then◌else◌, List, [], ◌∷◌, ◌++◌, drop, length, map, Option, Some, None}
use Rattle.std.specs.Char.{to_ascii_lowercase, is_ascii_alphanumeric}
use Rattle.std.specs.FinMap as finite
use Rattle.std.specs.List.{list_all, prefix_len}
use Rattle.std.specs.Str.Lines.{lines}
use Rattle.lab_table.specs.declared.statement.Command.{Command}
use Rattle.lab_table.specs.Row.{Row}
use Rattle.lab_table.specs.Table.{Table}
use Rattle.lab_script.specs.declared.script.Script.{Script}
use Rattle.lab_table.specs.declared.word.Word.TheVariants as word
use Rattle.lab_statement.specs.declared.token.Token.{Token}
use Rattle.lab_statement.specs.declared.token.Token.TheVariants as token
use Rattle.lab_statement.specs.Reading.{is_token}
use Rattle.lab_statement.specs.Token.{is_blank, tokens}
use Rattle.lab_script.specs.Grammar.{IsCommands, IsSetup, IsRowList, AllDistinct}
use Rattle.lab_script.specs.Printed.{printed_setup}
use Rattle.lab_table.specs.TableSet.{max_tables}
use Rattle.lab_script.specs.Tables.{with_commands, setup_tables, script_tables}
use Rattle.lab_script.specs.Limits.{max_lines, max_commands}
use Rattle.lab_printing.specs.Limits.{max_line_bytes}
use Rattle.lab_statement.specs.Text.{code_of, is_code_byte, remark_of}

-- whether a word ends here
abbrev pub ends_word : List ℕ → Bool
ends_word [] = true
ends_word (b ∷ bytes) = not (is_ascii_alphanumeric b || b == 95)

-- a digit from 1 to 9 that ends a word
abbrev pub session_digit : List ℕ → Option ℕ
session_digit [] = None
session_digit (d ∷ bytes) = if (nat_le 49 d && nat_le d 57) && ends_word bytes then Some (d - 48) else None

-- the session that a word begins with: a T in either case, and its digit
abbrev pub word_session : List ℕ → Option ℕ
word_session [] = None
word_session (b ∷ bytes) = if to_ascii_lowercase b == 116 then session_digit bytes else None

-- the session that a remark begins with, behind blanks
abbrev pub session_of : List ℕ → Option ℕ
session_of remark = word_session (drop (prefix_len is_blank remark) remark)

-- whether a line is passed over: its code has no token
abbrev pub is_passed : List ℕ → Bool
is_passed line = length (tokens (code_of line)) == 0

-- whether a line's code has only tabs and printed bytes
abbrev pub is_ascii_code : List ℕ → Bool
is_ascii_code line = list_all is_code_byte (code_of line)

-- a line that may have this number
pub record IsFit (number : ℕ) (line : List ℕ) : Type 0 where
  pub lines : number ≤ max_lines
  pub bytes : length line ≤ max_line_bytes
  pub ascii : is_ascii_code line ≡ true

-- the script with these commands of a session at its end
abbrev pub extended : Script → ℕ → ℕ → List Command → Script
extended script session text_line commands = record {
  setup = script.setup;
  lines = script.lines ++ map (λ c. record { session = session; command = c; text_line = text_line }) commands;
}

-- What a line with this number makes of what the lines before it spell, which is nothing yet or a script:
-- it is passed over, or it is the setup, or it has commands of a session. The script then names four tables at most.
pub data LineSpells (number : ℕ) (line : List ℕ) : Option Script → Option Script → Type 0 where
  passed : (script : Option Script) → IsFit number line → is_passed line ≡ true → LineSpells number line script script
  setup : {table : Table} → IsFit number line → IsSetup (tokens (code_of line)) table → length (setup_tables table) ≤ max_tables
      → LineSpells number line None (Some (record { setup = table; lines = [] }))
  commands : {cs : List Command} {session : ℕ} (script : Script) → IsFit number line → IsCommands (tokens (code_of line)) cs
      → session_of (remark_of line) ≡ Some session → length script.lines + length cs ≤ max_commands → length (with_commands (script_tables script) cs) ≤ max_tables
      → LineSpells number line (Some script) (Some (extended script session number cs))

-- whether the first token is setup
abbrev pub begins_setup : List Token → Bool
begins_setup [] = false
begins_setup (t ∷ ts) = is_token t (token.Word word.Setup)

-- tokens that begin with a setup whose printed line is over its limit
pub record BeginsLongSetup (ts : List Token) : Type 0 where
  pub rows : List (Row × ℤ)
  pub front : List Token
  pub behind : List Token
  pub whole : ts ≡ token.Word word.Setup ∷ front ++ behind
  pub spelled : IsRowList front rows
  pub distinct : AllDistinct rows
  pub long : max_line_bytes < length (printed_setup (finite.from_entries rows))

-- what the tokens of a line with this number and its remark make of what the lines before it spell: the setup, or commands of a session
abbrev pub TokensSpell : ℕ → List Token → List ℕ → Option Script → Option Script → Type 0
TokensSpell number ts remark None after = (table : Table) × IsSetup ts table × (length (setup_tables table) ≤ max_tables) × (after ≡ Some (record { setup = table; lines = [] }))
TokensSpell number ts remark (Some before) after =
    (cs : List Command) × (session : ℕ) × IsCommands ts cs × (session_of remark ≡ Some session)
    × (length before.lines + length cs ≤ max_commands) × (length (with_commands (script_tables before) cs) ≤ max_tables) × (after ≡ Some (extended before session number cs))

-- what lines, of which the first has this number, make of what stands before them
abbrev pub LinesSpell : ℕ → Option Script → List (List ℕ) → Option Script → Type 0
LinesSpell number before [] after = after ≡ before
LinesSpell number before (line ∷ ls) after = (mid : Option Script) × LineSpells number line before mid × LinesSpell (number + 1) mid ls after

-- the text spells the script
abbrev pub Spells : List ℕ → Script → Type 0
Spells text script = LinesSpell 1 None (lines text) (Some script)
