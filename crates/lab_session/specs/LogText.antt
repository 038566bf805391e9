-- The text of a log: one line for each event, and whether all of its commands keep the limits of a text.
use Rattle.std.specs.Prelude.{ℕ, List, [], ◌∷◌, ◌++◌, map, flat_map, codes}
use Rattle.std.specs.List.{Contains}
use Rattle.std.specs.Fmt.{decimal}
use Rattle.lab_table.specs.declared.statement.Command.{Command}
use Rattle.lab_printing.specs.Limits.{CommandPrints}
use Rattle.lab_printing.specs.Printed.{joined, newline, printed_command, printed_row_name, printed_list}
use Rattle.lab_engine.specs.declared.event.EngineFault.{EngineFault}
use Rattle.lab_engine.specs.declared.event.EngineFault.TheVariants as fault
use Rattle.lab_engine.specs.declared.event.Outcome.{Outcome}
use Rattle.lab_engine.specs.declared.event.Outcome.TheVariants as outcome
use Rattle.lab_engine.specs.declared.event.LogEvent.{LogEvent}

-- a session
abbrev pub session_text : ℕ → List ℕ
session_text session = codes "T" ++ decimal session

-- a session, with the space before it
abbrev pub next_text : ℕ → List ℕ
next_text session = codes " " ++ session_text session

-- why a command was refused
abbrev pub refusal_text : EngineFault → List ℕ
refusal_text (fault.DuplicateKey id) = codes "DuplicateKey " ++ printed_row_name id
refusal_text (fault.OutOfRange id) = codes "OutOfRange " ++ printed_row_name id
refusal_text (fault.Deadlock circle) = codes "Deadlock" ++ flat_map next_text circle
refusal_text (fault.WriteConflict row by) = codes "WriteConflict row " ++ printed_row_name row ++ codes " by " ++ decimal by
refusal_text fault.NoTransaction = codes "NoTransaction"
refusal_text fault.AlreadyBegun = codes "AlreadyBegun"
refusal_text fault.Busy = codes "Busy"
refusal_text (fault.ReadConflict row by) = codes "ReadConflict row " ++ printed_row_name row ++ codes " by " ++ decimal by

-- what an engine answered
abbrev pub outcome_text : Outcome → List ℕ
outcome_text (outcome.Begun n) = codes "begun " ++ decimal n
outcome_text (outcome.Rows view rows writes) = codes "rows " ++ printed_list rows
outcome_text outcome.Committed = codes "committed"
outcome_text outcome.Aborted = codes "aborted"
outcome_text (outcome.Waits on) = codes "waits " ++ joined (map session_text on)
outcome_text (outcome.Refused f) = codes "refused " ++ refusal_text f

-- the line of an event
abbrev pub event_text : LogEvent → List ℕ
event_text event = session_text event.session ++ codes " " ++ printed_command event.command ++ codes ": " ++ outcome_text event.outcome ++ newline

-- a log, the oldest event first
abbrev pub log_text : List LogEvent → List ℕ
log_text log = flat_map event_text log

-- every command of a log prints
abbrev pub AllPrint : List LogEvent → Type 0
AllPrint [] = Unit {0}
AllPrint (event ∷ log) = CommandPrints event.command × AllPrint log

-- some event's command is so
pub record SomeEvent (Is : Command → Type 0) (log : List LogEvent) : Type 0 where
  pub event : LogEvent
  pub stands : Contains log event
  pub is : Is event.command
