-- The committed rows after each event of a log, and a log printed with them.
use Rattle.std.specs.Prelude.{ℕ, ◌-◌, cond, Option, Some, None, unwrap_or, List, [], ◌∷◌, ◌++◌, slice_set, replicate, codes}
use Rattle.lab_table.specs.Table.{Table}
use Rattle.lab_table.specs.Sessions.{of_session}
use Rattle.lab_script.specs.Printed.{printed_table}
use Rattle.lab_printing.specs.Printed.{newline}
use Rattle.lab_history.specs.History.{History}
use Rattle.lab_engine.specs.EventQuery.{is_over}
use Rattle.lab_engine.specs.RecordedLog.{RecordedLog}
use Rattle.lab_engine.specs.declared.event.LogEvent.{LogEvent}
use Rattle.lab_engine.specs.declared.event.Outcome.{Outcome}
use Rattle.lab_engine.specs.declared.event.Outcome.TheVariants.{Begun, Rows as Listed, Committed, Aborted, Waits, Refused}
use Rattle.lab_judge.specs.Runs.{table_after_txn}
use Rattle.lab_session.specs.LogText.{event_text}
use Rattle.lab_commands.specs.declared.standing.Standing.{Standing}

-- before the first event no transaction is active, and the rows are the setup's
abbrev pub standing_first : Table → Standing
standing_first setup = record { active = replicate 9 None; rows = setup }

-- the number of a session's active transaction, if it has one
abbrev pub number_in : List (Option ℕ) → ℕ → Option ℕ
number_in active session = unwrap_or (of_session active session) None

-- the number of a session's active transaction after one of its events
abbrev pub number_after : Outcome → Option ℕ → Option ℕ
number_after (Begun n) by = Some n
number_after outcome by = cond (is_over outcome) None by

-- the committed rows after an outcome of a session whose active transaction has this number: a commit puts its writes over them
abbrev pub rows_after : History → Outcome → Option ℕ → Table → Table
rows_after h (Begun n) by rows = rows
rows_after h (Listed view listed writes) by rows = rows
rows_after h Committed by rows = table_after_txn h by rows
rows_after h Aborted by rows = rows
rows_after h (Waits on) by rows = rows
rows_after h (Refused fault) by rows = rows

-- after an event of a session whose active transaction has this number
abbrev pub standing_by : History → LogEvent → Option ℕ → Standing → Standing
standing_by h event by before = record {
  active = slice_set before.active (event.session - 1) (number_after event.outcome by);
  rows = rows_after h event.outcome by before.rows;
}

-- after an event
abbrev pub standing_after : History → LogEvent → Standing → Standing
standing_after h event before = standing_by h event (number_in before.active event.session) before

-- behind an event that ends a transaction, the committed rows, as a remark
abbrev pub rows_remark : Outcome → Table → List ℕ
rows_remark outcome rows = cond (is_over outcome) (codes "-- rows " ++ printed_table rows ++ newline) []

-- the line of an event, and the remark behind it
abbrev pub remarked_text : LogEvent → Table → List ℕ
remarked_text event rows = event_text event ++ rows_remark event.outcome rows

-- a log with its remarks
abbrev pub remarked_log : History → Standing → List LogEvent → List ℕ
remarked_log h before [] = []
remarked_log h before (event ∷ log) = remarked_text event (standing_after h event before).rows ++ remarked_log h (standing_after h event before) log

-- the log of a recording with its remarks
abbrev pub remarked_recording : RecordedLog → List ℕ
remarked_recording r = remarked_log r.history (standing_first r.setup) r.log
