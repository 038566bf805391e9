-- What the fault of a statement's text states, and the line that reports it.
use Rattle.std.specs.Prelude.{◌≡◌, ℕ, ◌<◌, ◌≤◌, ◌⊎◌, true, false, List, [], ◌++◌, length, Some, codes}
use Rattle.std.specs.Fmt.{decimal}
use Rattle.std.specs.List.{list_all}
use Rattle.lab_table.specs.declared.statement.Statement.{Statement}
use Rattle.lab_statement.specs.declared.fault.ScriptFault.{ScriptFault}
use Rattle.lab_statement.specs.declared.fault.ScriptFault.TheVariants as fault
use Rattle.lab_statement.specs.declared.fault.ScriptFaultKind.{ScriptFaultKind}
use Rattle.lab_statement.specs.declared.fault.ScriptFaultKind.TheVariants as kinds
use Rattle.lab_statement.specs.declared.fault.Refusal.{Refusal}
use Rattle.lab_statement.specs.declared.fault.Refusal.TheVariants as refusal
use Rattle.lab_statement.specs.declared.token.Token.{Token}
use Rattle.lab_statement.specs.FirstFaults.{statement_fault}
use Rattle.lab_statement.specs.Token.{tokens}
use Rattle.lab_statement.specs.Text.{AreStatementTokens, code_of, is_code_byte, HasWhere, BeginsLongStatement, SpellsStatement}
use Rattle.lab_printing.specs.Printed.{newline}
use Rattle.lab_printing.specs.Limits.{max_line_bytes}

-- What a kind of fault says of the text of one statement: it is too long, or it isn't and has a byte that is no code,
-- or its tokens are wrong.
abbrev pub SaysOfStatement : ScriptFaultKind → List ℕ → Type 0
SaysOfStatement kinds.NotAscii text = (length text ≤ max_line_bytes) × (list_all is_code_byte text ≡ false)
SaysOfStatement kinds.TooLong text = (max_line_bytes < length text) ⊎ ((list_all is_code_byte text ≡ true) × BeginsLongStatement (tokens (code_of text)))
SaysOfStatement kinds.UnknownStatement text = (length text ≤ max_line_bytes) × (list_all is_code_byte text ≡ true)
SaysOfStatement kinds.BadPredicate text = (length text ≤ max_line_bytes) × (list_all is_code_byte text ≡ true) × HasWhere (tokens (code_of text))
SaysOfStatement kinds.BadTableName text = (length text ≤ max_line_bytes) × (list_all is_code_byte text ≡ true)
SaysOfStatement kinds.NumberOutOfRange text = (length text ≤ max_line_bytes) × (list_all is_code_byte text ≡ true)
SaysOfStatement kinds.TooDeep text = (length text ≤ max_line_bytes) × (list_all is_code_byte text ≡ true)
SaysOfStatement kind text = ⊥

-- the fault is true of the text of one statement
abbrev pub IsStatementFault : List ℕ → ScriptFault → Type 0
IsStatementFault text fault.NoMemory = Unit {0}
IsStatementFault text (fault.At line kind) = (line ≡ 1) × ((s : Statement) → SpellsStatement text s → ⊥) × SaysOfStatement kind text

-- the fault of a script whose line with this number stopped so
abbrev pub refusal_at : Refusal → ℕ → ScriptFault
refusal_at refusal.NoMemory number = fault.NoMemory
refusal_at (refusal.Fault kind) number = fault.At number kind

-- in the text of one statement, that is short enough and code, the fault is the first from the left of its tokens
abbrev pub IsFirstInText : List ℕ → ScriptFault → Type 0
IsFirstInText text fault.NoMemory = Unit {0}
IsFirstInText text (fault.At line kind) = length text ≤ max_line_bytes → list_all is_code_byte text ≡ true → (ts : List Token) × AreStatementTokens text ts × (statement_fault ts ≡ Some kind)

-- the name of a kind
abbrev pub kind_name : ScriptFaultKind → List ℕ
kind_name kinds.NotAscii = codes "NotAscii"
kind_name kinds.NoSetup = codes "NoSetup"
kind_name kinds.SetupRepeated = codes "SetupRepeated"
kind_name kinds.NoSession = codes "NoSession"
kind_name kinds.UnknownStatement = codes "UnknownStatement"
kind_name kinds.BadPredicate = codes "BadPredicate"
kind_name kinds.BadTableName = codes "BadTableName"
kind_name kinds.NumberOutOfRange = codes "NumberOutOfRange"
kind_name kinds.TooDeep = codes "TooDeep"
kind_name kinds.TooLong = codes "TooLong"
kind_name kinds.DuplicateSetupRow = codes "DuplicateSetupRow"
kind_name kinds.TooManyTables = codes "TooManyTables"

-- the line that tells a fault
abbrev pub fault_text : ScriptFault → List ℕ
fault_text fault.NoMemory = []
fault_text (fault.At line kind) = codes "line " ++ decimal line ++ codes ": " ++ kind_name kind ++ newline
