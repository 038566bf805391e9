-- Texts of events: a session's command, and the words before the result of a command that is retried after this
-- event.
use Rattle.std.specs.Prelude.{ℕ, List, ◌++◌, codes}
use Rattle.lab_table.specs.declared.statement.Command.{Command}
use Rattle.lab_printing.specs.Printed.{printed_command}
use Rattle.lab_engine.specs.declared.event.LogEvent.{LogEvent}
use Rattle.lab_session.specs.LogText.{session_text}

-- a session's command
abbrev pub asked_text : ℕ → Command → List ℕ
asked_text session command = session_text session ++ codes " " ++ printed_command command

-- what stands before the answer to a command that is tried again behind this event
abbrev pub behind_text : LogEvent → List ℕ
behind_text event = codes "; behind " ++ asked_text event.session event.command ++ codes ": "
