-- The limits of a statement's text, and the statements and commands whose printed form keeps them.
use Rattle.std.specs.Prelude.{ℕ, ◌≤◌, ◌<◌, length}
use Rattle.lab_table.specs.declared.statement.Statement.{Statement}
use Rattle.lab_table.specs.declared.statement.Command.{Command}
use Rattle.lab_table.specs.declared.statement.Command.TheVariants as command
use Rattle.lab_printing.specs.Depth.{statement_depth}
use Rattle.lab_printing.specs.Printed.{printed_statement}

-- the most bytes of a line, without what ends it
abbrev pub max_line_bytes : ℕ
max_line_bytes = 4000

-- the most bytes of a statement's printed form
abbrev pub max_statement_bytes : ℕ
max_statement_bytes = 1000

-- the most parentheses and nots that are open at one place of a predicate
abbrev pub max_depth : ℕ
max_depth = 16

-- its parentheses and nots are few enough at each place, and its text is short enough
pub record StatementPrints (s : Statement) : Type 0 where
  pub shallow : statement_depth s ≤ max_depth
  pub short : length (printed_statement s) ≤ max_statement_bytes

-- begin, commit and abort always print
abbrev pub CommandPrints : Command → Type 0
CommandPrints (command.Run s) = StatementPrints s
CommandPrints c = Unit {0}

-- a statement that is too deep
abbrev pub IsDeep : Command → Type 0
IsDeep (command.Run s) = max_depth < statement_depth s
IsDeep c = ⊥

-- a statement that is too long
abbrev pub IsLong : Command → Type 0
IsLong (command.Run s) = max_statement_bytes < length (printed_statement s)
IsLong c = ⊥
