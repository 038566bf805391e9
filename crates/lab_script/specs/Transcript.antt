-- The transcript of a script: its transactions run one after another, in the order of their begins.
--
-- Origin: serial execution: Bernstein, Hadzilacos and Goodman, "Concurrency Control and Recovery in Database Systems"
-- (1987).
use Rattle.std.specs.Prelude.{ℕ, ◌+◌, Bool, true, false, not, ◌==◌, if◌then◌else◌, List, [], ◌∷◌, ◌++◌, unwrap_or, ◌&&◌, Option, Some, None, option_map, codes}
use Rattle.std.specs.Fmt.{decimal}
use Rattle.lab_table.specs.Row.{Row, numbered}
use Rattle.lab_table.specs.Table.{Table}
use Rattle.lab_table.specs.Sessions.{of_session}
use Rattle.lab_table.specs.Statement.{Ran, run, kind_matching}
use Rattle.lab_table.specs.Running.{overflowing}
use Rattle.lab_table.specs.declared.statement.Statement.{Statement}
use Rattle.lab_table.specs.declared.statement.StatementKind.{StatementKind}
use Rattle.lab_table.specs.declared.statement.StatementKind.TheVariants as kind
use Rattle.lab_table.specs.declared.statement.Command.{Command}
use Rattle.lab_table.specs.declared.statement.Command.TheVariants as command
use Rattle.lab_script.specs.declared.script.Line.{Line}
use Rattle.lab_script.specs.declared.script.Script.{Script}
use Rattle.lab_printing.specs.Printed.{printed_statement, printed_list, printed_row_name, newline}
use Rattle.lab_script.specs.Printed.{printed_table}

-- a transaction: its session, its statements, and whether it ends in a commit
pub record Transaction : Type 0 where
  pub session : ℕ
  pub statements : List Statement
  pub commits : Bool

-- a session's statements up to its end and whether it commits, from its next command, and what its later ones give
abbrev pub body_on : Command → List Statement × Bool → List Statement × Bool
body_on command.Begin later = later
body_on command.Commit later = ([], true)
body_on command.Abort later = ([], false)
body_on (command.Run s) later = (s ∷ later.0, later.1)

-- a session's statements up to its first commit or abort, and whether that is a commit
abbrev pub body_of : ℕ → List Line → List Statement × Bool
body_of session [] = ([], false)
body_of session (line ∷ lines) = if line.session == session then body_on line.command (body_of session lines) else body_of session lines

-- the transaction of a session whose begin stands before these lines
abbrev pub transaction_of : ℕ → List Line → Transaction
transaction_of session lines = record { session = session; statements = (body_of session lines).0; commits = (body_of session lines).1 }

-- whether a session is inside a transaction, from a command of it and whether it was before
abbrev pub inside_on : Command → Bool → Bool
inside_on command.Begin before = true
inside_on command.Commit before = false
inside_on command.Abort before = false
inside_on (command.Run s) before = before

-- the sessions that are inside a transaction after a session's command
abbrev pub inside_after : (ℕ → Bool) → ℕ → Command → ℕ → Bool
inside_after inside session command s = if s == session then inside_on command (inside s) else inside s

-- the sessions whose number has a mark
abbrev pub sessions_in : List Bool → ℕ → Bool
sessions_in marks s = unwrap_or (of_session marks s) false

-- before the first command no session is inside a transaction
abbrev pub nobody : ℕ → Bool
nobody s = false

-- whether a command is begin
abbrev pub is_begin : Command → Bool
is_begin command.Begin = true
is_begin command.Commit = false
is_begin command.Abort = false
is_begin (command.Run s) = false

-- the transactions in the order of their begins, while some sessions are inside one
abbrev pub transactions : (ℕ → Bool) → List Line → List Transaction
transactions inside [] = []
transactions inside (line ∷ lines) =
    (if is_begin line.command && not (inside line.session) then transaction_of line.session lines ∷ [] else [])
    ++ transactions (inside_after inside line.session line.command) lines

-- the name of a row, if there is one
abbrev pub row_text : Option Row → List ℕ
row_text None = []
row_text (Some row) = printed_row_name row

-- why a table refuses a statement of this kind: the row that is present, or the least row whose new value is out of range
abbrev pub kind_refusal_text : List ℕ → StatementKind → Table → List ℕ
kind_refusal_text table (kind.Select p) rows = []
kind_refusal_text table (kind.Update e p) rows = codes "OutOfRange " ++ row_text (overflowing e (kind_matching table (kind.Update e p) rows))
kind_refusal_text table (kind.Insert id value) rows = codes "DuplicateKey " ++ printed_row_name (numbered table id)
kind_refusal_text table (kind.Delete p) rows = []

-- why a table refuses a statement
abbrev pub refusal_text : Statement → Table → List ℕ
refusal_text s rows = kind_refusal_text s.table s.kind rows

-- what a table answers to a statement, from what running it gives: the rows that it lists, or why it is refused
abbrev pub answer_text : Statement → Table → Option Ran → List ℕ
answer_text s table None = refusal_text s table
answer_text s table (Some ran) = printed_list ran.rows

-- the line of a statement on a table
unfoldable pub statement_text : Statement → Table → List ℕ
statement_text s table = printed_statement s ++ codes " -> " ++ answer_text s table (run s table) ++ newline

-- the table after a statement, unless it is refused
unfoldable pub table_with : Statement → Table → Option Table
table_with s table = option_map (λ ran. ran.table) (run s table)

-- the last line of a transaction
abbrev pub end_text : Bool → List ℕ
end_text commits = (if commits then codes "commit" else codes "abort") ++ newline

-- the lines of a transaction's statements and of its end, from a table
abbrev pub body_text : Table → List Statement → Bool → List ℕ
body_text table [] commits = end_text commits
body_text table (s ∷ statements) commits =
    statement_text s table
    ++ elim (table_with s table) [ None ↦ end_text false | Some after ↦ body_text after statements commits ]

-- the table that a transaction leaves, if it commits
abbrev pub committed : Table → List Statement → Bool → Option Table
committed table [] commits = if commits then Some table else None
committed table (s ∷ statements) commits = elim (table_with s table) [ None ↦ None | Some after ↦ committed after statements commits ]

-- the table after a transaction: an abort puts it back
abbrev pub table_after : Table → Transaction → Table
table_after table txn = unwrap_or (committed table txn.statements txn.commits) table

-- the first line of a transaction
abbrev pub heading_text : ℕ → ℕ → List ℕ
heading_text n session = codes "txn " ++ decimal n ++ codes " T" ++ decimal session ++ newline

-- the lines of a transaction, from a table
abbrev pub transaction_text : ℕ → Table → Transaction → List ℕ
transaction_text n table txn = heading_text n txn.session ++ body_text table txn.statements txn.commits

-- the lines of transactions, of which the first has this number, and the table in the end
abbrev pub serial_text : ℕ → Table → List Transaction → List ℕ
serial_text n table [] = codes "end " ++ printed_table table ++ newline
serial_text n table (txn ∷ txns) = transaction_text n table txn ++ serial_text (n + 1) (table_after table txn) txns

-- what is printed where a script's transactions run whole, in the order of their begins
abbrev pub transcript : Script → List ℕ
transcript script = serial_text 1 script.setup (transactions nobody script.lines)
