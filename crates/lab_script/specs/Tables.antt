-- The tables that a script names, each once, and their limit.
use Rattle.std.specs.Prelude.{ℕ, ℤ, List, [], ◌∷◌, Option, Some, None}
use Rattle.std.specs.FinMap as finite
use Rattle.lab_table.specs.Row.{Row}
use Rattle.lab_table.specs.Table.{Table}
use Rattle.lab_table.specs.declared.statement.Command.{Command}
use Rattle.lab_table.specs.declared.statement.Command.TheVariants as command
use Rattle.lab_table.specs.TableSet.{with_name}
use Rattle.lab_script.specs.declared.script.Line.{Line}
use Rattle.lab_script.specs.declared.script.Script.{Script}

-- names with one more, if there is one
abbrev pub with_any : List (List ℕ) → Option (List ℕ) → List (List ℕ)
with_any names None = names
with_any names (Some name) = with_name names name

-- names with those of things each of which may name a table
abbrev pub with_all : {X : Type 0} → (X → Option (List ℕ)) → List (List ℕ) → List X → List (List ℕ)
with_all table names [] = names
with_all table names (x ∷ xs) = with_all table (with_any names (table x)) xs

-- the table of a command, if it is a statement
abbrev pub command_table : Command → Option (List ℕ)
command_table command.Begin = None
command_table command.Commit = None
command_table command.Abort = None
command_table (command.Run s) = Some s.table

-- names with the tables of commands
abbrev pub with_commands : List (List ℕ) → List Command → List (List ℕ)
with_commands names cs = with_all command_table names cs

-- the table of a row with its value
abbrev pub row_table : Row × ℤ → Option (List ℕ)
row_table row = Some row.0.table

-- names with the tables of rows
abbrev pub with_rows : List (List ℕ) → List (Row × ℤ) → List (List ℕ)
with_rows names rows = with_all row_table names rows

-- the names of a setup's rows
abbrev pub setup_tables : Table → List (List ℕ)
setup_tables table = with_rows [] (finite.entries table)

-- the table of a line's command, if it is a statement
abbrev pub line_table : Line → Option (List ℕ)
line_table line = command_table line.command

-- names with the tables of lines
abbrev pub with_lines : List (List ℕ) → List Line → List (List ℕ)
with_lines names lines = with_all line_table names lines

-- the names that a script uses, each once: those of its setup and of its statements
abbrev pub script_tables : Script → List (List ℕ)
script_tables script = with_lines (setup_tables script.setup) script.lines

-- the same of what lines spell, which is nothing yet or a script
abbrev pub tables_so_far : Option Script → List (List ℕ)
tables_so_far None = []
tables_so_far (Some script) = script_tables script
