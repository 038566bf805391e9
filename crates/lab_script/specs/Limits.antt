-- The limits of a script's text, and the scripts whose printed form keeps them.
use Rattle.std.specs.Prelude.{ℕ, ◌≤◌, ◌<◌, List, length}
use Rattle.std.specs.List.{Contains}
use Rattle.lab_table.specs.declared.statement.Command.{Command}
use Rattle.lab_script.specs.declared.script.Line.{Line}
use Rattle.lab_script.specs.declared.script.Script.{Script}
use Rattle.lab_script.specs.Printed.{printed_setup}
use Rattle.lab_table.specs.TableSet.{max_tables}
use Rattle.lab_script.specs.Tables.{script_tables}
use Rattle.lab_printing.specs.Each.{Each}
use Rattle.lab_printing.specs.Limits.{CommandPrints, IsDeep, IsLong, max_line_bytes}

-- the most lines of a text
abbrev pub max_lines : ℕ
max_lines = 2000

-- the most commands of a script: printed, they stand on lines of their own behind the setup's
abbrev pub max_commands : ℕ
max_commands = 1999

-- bytes that no text of a script exceeds
abbrev pub max_script_bytes : ℕ
max_script_bytes = 8388608

-- every command prints
abbrev pub AllPrint : List Line → Type 0
AllPrint lines = Each (λ line. CommandPrints line.command) lines

-- a script whose printed form keeps the limits
pub record ScriptPrints (script : Script) : Type 0 where
  pub setup : length (printed_setup script.setup) ≤ max_line_bytes
  pub few : length script.lines ≤ max_commands
  pub lines : AllPrint script.lines
  pub tables : length (script_tables script) ≤ max_tables

-- some line's command is so
pub record SomeLine (Is : Command → Type 0) (script : Script) : Type 0 where
  pub line : Line
  pub stands : Contains script.lines line
  pub is : Is line.command

-- some statement is too deep
abbrev pub BreaksDepth : Script → Type 0
BreaksDepth script = SomeLine IsDeep script

-- the line of the setup or a statement is too long, or there are too many lines
pub data BreaksLength (script : Script) : Type 0 where
  long_setup : max_line_bytes < length (printed_setup script.setup) → BreaksLength script
  many_lines : max_commands < length script.lines → BreaksLength script
  long_statement : SomeLine IsLong script → BreaksLength script

-- there are more tables than a script may name
abbrev pub BreaksTables : Script → Type 0
BreaksTables script = max_tables < length (script_tables script)
