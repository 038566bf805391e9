-- The writes that the commits of a play install, in order.
use Rattle.std.specs.Prelude.{ℕ, ◌+◌, ◌-◌, Option, Some, None, List, [], ◌∷◌, ◌++◌, length, replicate, slice_set}
use Rattle.std.specs.FinMap.{entries}
use Rattle.lab_table.specs.Row.{Row}
use Rattle.lab_table.specs.Table.{State}
use Rattle.lab_history.specs.History.{History}
use Rattle.lab_history.specs.Version.{ops_of}
use Rattle.lab_history.specs.declared.operation.Op.{Op}
use Rattle.lab_engine.specs.RecordedLog.{RecordedLog}
use Rattle.lab_engine.specs.declared.event.LogEvent.{LogEvent}
use Rattle.lab_engine.specs.declared.event.Outcome.{Outcome}
use Rattle.lab_engine.specs.declared.event.Outcome.TheVariants.{Begun, Rows as Listed, Committed, Aborted, Waits, Refused}
use Rattle.lab_commands.specs.CommittedRows.{number_in, number_after}
use Rattle.lab_compare.specs.declared.commits.Commits.{Commits}

-- the rows that operations write, with their states, one after another
abbrev pub written_by : List Op → List (Row × State)
written_by [] = []
written_by (op ∷ ops) = entries op.writes ++ written_by ops

-- what the transaction with this number writes, if there is one
abbrev pub installs_by : History → Option ℕ → List (Row × State)
installs_by h None = []
installs_by h (Some n) = written_by (ops_of h n)

-- what an outcome of a session installs whose active transaction has this number
abbrev pub installs_of : History → Outcome → Option ℕ → List (Row × State)
installs_of h (Begun n) by = []
installs_of h (Listed view listed writes) by = []
installs_of h Committed by = installs_by h by
installs_of h Aborted by = []
installs_of h (Waits on) by = []
installs_of h (Refused fault) by = []

-- the numbers of the active transactions after an event
abbrev pub active_after : LogEvent → List (Option ℕ) → List (Option ℕ)
active_after event active = slice_set active (event.session - 1) (number_after event.outcome (number_in active event.session))

-- what an event installs
abbrev pub event_installs : History → List (Option ℕ) → LogEvent → List (Row × State)
event_installs h active event = installs_of h event.outcome (number_in active event.session)

-- what a log installs
abbrev pub installs_each : History → List (Option ℕ) → List LogEvent → List (Row × State)
installs_each h active [] = []
installs_each h active (event ∷ log) = event_installs h active event ++ installs_each h (active_after event active) log

-- how many writes are installed behind each event, where so many are before the first
abbrev pub counts_each : History → List (Option ℕ) → ℕ → List LogEvent → List ℕ
counts_each h active before [] = []
counts_each h active before (event ∷ log) =
    (before + length (event_installs h active event)) ∷ counts_each h (active_after event active) (before + length (event_installs h active event)) log

-- of a recording
abbrev pub commits_of : RecordedLog → Commits
commits_of r = record {
  first = r.setup;
  installs = installs_each r.history (replicate 9 None) r.log;
  counts = counts_each r.history (replicate 9 None) 0 r.log;
}
