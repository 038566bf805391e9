-- What the fault of a script's text states.
--
-- It is in the first faulty line, or the text ends before its setup. A line is faulty where, after what the lines
-- before it spell, it spells nothing. Its fault is then the first that applies: the line is over a limit; it has a
-- byte that isn't allowed; there is no setup yet, or a second one; or its tokens have a first fault from the left.
use Rattle.std.specs.Prelude.{◌≡◌, ℕ, ◌+◌, ◌-◌, ◌||◌, not, nat_lt, true, false, Bool, if◌then◌else◌, ◌⊎◌, List, length, take, Option, Some, None, slice_get, is_some}
use Rattle.std.specs.Option.{option_or}
use Rattle.std.specs.Str.Lines.{lines}
use Rattle.lab_statement.specs.declared.fault.ScriptFault.{ScriptFault}
use Rattle.lab_statement.specs.declared.fault.ScriptFault.TheVariants as fault
use Rattle.lab_statement.specs.declared.fault.ScriptFaultKind.{ScriptFaultKind}
use Rattle.lab_statement.specs.declared.fault.ScriptFaultKind.TheVariants as kinds
use Rattle.lab_script.specs.declared.script.Script.{Script}
use Rattle.lab_statement.specs.declared.token.Token.{Token}
use Rattle.lab_script.specs.FirstFaults.{commands_fault, setup_fault}
use Rattle.lab_statement.specs.Token.{tokens}
use Rattle.lab_statement.specs.Text.{code_of, remark_of, HasWhere}
use Rattle.lab_script.specs.Script.{session_of, is_ascii_code, is_passed, begins_setup, BeginsLongSetup, LineSpells, LinesSpell}
use Rattle.lab_script.specs.Tables.{script_tables}
use Rattle.lab_script.specs.Limits.{max_lines, max_commands}
use Rattle.lab_printing.specs.Limits.{max_line_bytes}

-- whether a line is longer than a line may be, or comes after the last that a text may have
abbrev pub is_over : ℕ → List ℕ → Bool
is_over number line = nat_lt max_lines number || nat_lt max_line_bytes (length line)

-- the fault of a remark: it names no session
abbrev pub remark_fault : List ℕ → Option ScriptFaultKind
remark_fault remark = if is_some (session_of remark) then None else Some kinds.NoSession

-- The first fault from the left of the tokens of a line and of its remark, behind what the lines before it spell: of a setup where that is still to come,
-- else of commands for which there is room and which name few tables.
abbrev pub tokens_fault : List Token → List ℕ → Option Script → Option ScriptFaultKind
tokens_fault ts remark None = if begins_setup ts then setup_fault ts else Some kinds.NoSetup
tokens_fault ts remark (Some script) =
    if begins_setup ts then Some kinds.SetupRepeated else option_or (commands_fault (script_tables script) (max_commands - length script.lines) ts) (remark_fault remark)

-- the first fault of a line with this number, behind what the lines before it spell: it is over a limit; or it isn't, and its code has another byte; or it isn't passed over, and its tokens are looked at
abbrev pub first_fault : ℕ → List ℕ → Option Script → Option ScriptFaultKind
first_fault number line before =
    if is_over number line then Some kinds.TooLong
    else if not (is_ascii_code line) then Some kinds.NotAscii
    else if is_passed line then None
    else tokens_fault (tokens (code_of line)) (remark_of line) before

-- what else this kind of fault tells of the tokens of a line, behind what the lines before it spell
abbrev pub TellsOfTokens : ScriptFaultKind → List Token → Option Script → Type 0
TellsOfTokens kinds.BadPredicate ts before = (is_some before ≡ true) × HasWhere ts
TellsOfTokens kinds.TooDeep ts before = is_some before ≡ true
TellsOfTokens kinds.TooLong ts None = BeginsLongSetup ts
TellsOfTokens kinds.DuplicateSetupRow ts before = before ≡ None
TellsOfTokens kind ts before = Unit {0}

-- the lines before this one spell something, and with it they spell nothing: it is the first faulty one, and the kind is that of its first fault
pub record IsFaultyLine (text : List ℕ) (number : ℕ) (kind : ScriptFaultKind) : Type 0 where
  pub index : ℕ
  pub counted : number ≡ index + 1
  pub line : List ℕ
  pub stands : slice_get (lines text) index ≡ Some line
  pub before : Option Script
  pub spelled : LinesSpell 1 None (take index (lines text)) before
  pub faulty : (after : Option Script) → LineSpells number line before after → ⊥
  pub first : first_fault number line before ≡ Some kind
  pub tells : is_over number line ≡ false → TellsOfTokens kind (tokens (code_of line)) before

-- no line is faulty, and there is no setup
pub record IsWithoutSetup (text : List ℕ) (number : ℕ) (kind : ScriptFaultKind) : Type 0 where
  pub counted : number ≡ length (lines text) + 1
  pub spelled : LinesSpell 1 None (lines text) None
  pub missing : kind ≡ kinds.NoSetup

-- the fault is true of the text: its line is the first faulty one, or no line is faulty and there is no setup
abbrev pub IsFaultOf : List ℕ → ScriptFault → Type 0
IsFaultOf text fault.NoMemory = Unit {0}
IsFaultOf text (fault.At line kind) = IsFaultyLine text line kind ⊎ IsWithoutSetup text line kind

-- the fault is the first one of a line with this number, or there was no memory
abbrev pub IsFaultAt : ℕ → Option ScriptFaultKind → ScriptFault → Type 0
IsFaultAt number first fault.NoMemory = Unit {0}
IsFaultAt number first (fault.At n kind) = (n ≡ number) × (first ≡ Some kind)
