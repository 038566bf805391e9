-- A transcript as contracts see it: its text, and the limit that a statement in it breaks, if one does.
use Rattle.std.specs.Prelude.{ℕ, nat_lt, cond, List, [], ◌∷◌, ◌++◌, length, Option, Some, None, codes}
use Rattle.std.specs.Option.{option_or}
use Rattle.lab_table.specs.Table.{Table}
use Rattle.lab_table.specs.declared.table.TableFault.{TableFault}
use Rattle.lab_table.specs.declared.table.TableFault.TheVariants as table_fault
use Rattle.lab_table.specs.declared.statement.Statement.{Statement}
use Rattle.lab_table.specs.declared.statement.Command.{Command}
use Rattle.lab_script.specs.declared.script.Script.{Script}
use Rattle.lab_printing.specs.declared.print.PrintFault.{PrintFault}
use Rattle.lab_printing.specs.declared.print.PrintFault.TheVariants.{TooDeep, TooLong}
use Rattle.lab_printing.specs.Depth.{statement_depth}
use Rattle.lab_printing.specs.Limits.{max_depth, max_statement_bytes, IsDeep, IsLong}
use Rattle.lab_printing.specs.Printed.{printed_statement, printed_row_name}
use Rattle.lab_script.specs.declared.script.Line.{Line}
use Rattle.lab_script.specs.Transcript.{Transaction, body_of, body_text, committed, table_with, table_after, transactions, nobody}

-- its text, and the limit that a statement in it breaks, if one does
pub record TranscriptView : Type 0 where
  pub text : List ℕ
  pub unprintable : Option PrintFault

-- a command is a statement whose printed form breaks this limit
abbrev pub Breaks : PrintFault → Command → Type 0
Breaks TooDeep command = IsDeep command
Breaks TooLong command = IsLong command
Breaks fault command = ⊥

-- the statements that a transaction shows: up to the first that is refused
abbrev pub shown_of : Table → List Statement → List Statement
shown_of table [] = []
shown_of table (s ∷ statements) = s ∷ elim (table_with s table) [ None ↦ [] | Some after ↦ shown_of after statements ]

-- the statements that transactions show, from a table
abbrev pub shown : Table → List Transaction → List Statement
shown table [] = []
shown table (txn ∷ txns) = shown_of table txn.statements ++ shown (table_after table txn) txns

-- the limit that a statement's printed form breaks, if it breaks one
abbrev pub limit_broken : Statement → Option PrintFault
limit_broken s = cond (nat_lt max_depth (statement_depth s)) (Some TooDeep) (cond (nat_lt max_statement_bytes (length (printed_statement s))) (Some TooLong) None)

-- the limit that the first statement to break one breaks, where one was broken before or not
abbrev pub first_broken : Option PrintFault → List Statement → Option PrintFault
first_broken before [] = before
first_broken before (s ∷ statements) = first_broken (option_or before (limit_broken s)) statements

-- what a transcript holds, and the table that commits, once a transaction has ended
pub record Ended : Type 0 where
  pub text : List ℕ
  pub unprintable : Option PrintFault
  pub table : Option Table

-- the end of a session's transaction, from the lines that are left
abbrev pub ended_by : ℕ → TranscriptView → Table → List Line → Ended
ended_by session output table lines = record {
  text = output.text ++ body_text table (body_of session lines).0 (body_of session lines).1;
  unprintable = first_broken output.unprintable (shown_of table (body_of session lines).0);
  table = committed table (body_of session lines).0 (body_of session lines).1;
}

-- the limit that a script's transcript breaks
abbrev pub unprintable : Script → Option PrintFault
unprintable script = first_broken None (shown script.setup (transactions nobody script.lines))

-- the text of a fault of a table
abbrev pub fault_text : TableFault → List ℕ
fault_text table_fault.NoMemory = []
fault_text (table_fault.DuplicateKey id) = codes "DuplicateKey " ++ printed_row_name id
fault_text (table_fault.OutOfRange id) = codes "OutOfRange " ++ printed_row_name id
