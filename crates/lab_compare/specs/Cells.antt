-- The results of each line of a script in one play.
use Rattle.std.specs.Prelude.{ℕ, ◌+◌, ◌-◌, ◌==◌, Bool, false, true, not, ◌&&◌, cond, Option, Some, None, unwrap_or, List, [], ◌∷◌, ◌++◌, length, drop, codes, if◌then◌else◌}
use Rattle.std.specs.List.{prefix_len}
use Rattle.lab_table.specs.Sessions.{of_session}
use Rattle.lab_script.specs.declared.script.Line.{Line}
use Rattle.lab_engine.specs.EventQuery.{is_over}
use Rattle.lab_engine.specs.Recording.{is_answer}
use Rattle.lab_engine.specs.declared.event.LogEvent.{LogEvent}
use Rattle.lab_session.specs.LogText.{outcome_text}
use Rattle.lab_compare.specs.Told.{behind_text}
use Rattle.lab_compare.specs.declared.cells.Cell.{Cell}

-- what stands before the answer to a command that is tried again, behind the event that ended a transaction last
abbrev pub last_text : Option LogEvent → List ℕ
last_text None = codes "; "
last_text (Some event) = behind_text event

-- an event's own answer, behind the event that ended a transaction last where its command waited
abbrev pub answer_text : Bool → Option LogEvent → LogEvent → List ℕ
answer_text waited last event = cond waited (last_text last) [] ++ outcome_text event.outcome

-- the event that ended a transaction last, after an event
abbrev pub last_after : LogEvent → Option LogEvent → Option LogEvent
last_after event last = cond (is_over event.outcome) (Some event) last

-- the answers to a session's next command, from events on of which the first of its own answers it: each wait, and then
-- what it was answered in the end
abbrev pub answers_text : ℕ → Bool → Option LogEvent → List LogEvent → List ℕ
answers_text session waited last [] = []
answers_text session waited last (event ∷ log) =
    cond (event.session == session)
    (answer_text waited last event ++ cond (is_answer event.outcome) [] (answers_text session true (last_after event last) log))
    (answers_text session waited (last_after event last) log)

-- whether an event answers a command of a session
abbrev pub answers : ℕ → LogEvent → Bool
answers session event = event.session == session && is_answer event.outcome

-- how many events stand before the one that answers a session's next command
abbrev pub answer_place : ℕ → List LogEvent → ℕ
answer_place session log = prefix_len (λ event. not (answers session event)) log

-- what a session's next command comes to: its answers, and how many events there are from the one that answers it on to the end
abbrev pub cell_of : ℕ → List LogEvent → Cell
cell_of session log = record {
  said = answers_text session false None log;
  from_end = length log - answer_place session log;
}

-- the events that a session has left, where its next command is answered too
abbrev pub left_by : ℕ → List LogEvent → List LogEvent
left_by session log = drop (answer_place session log + 1) log

-- the events that each session has left, where a session's next command is answered too
abbrev pub left_after : (ℕ → List LogEvent) → ℕ → ℕ → List LogEvent
left_after left session other = if other == session then left_by session (left session) else left other

-- what each of some lines comes to, where sessions have these events left
abbrev pub cells_from : (ℕ → List LogEvent) → List Line → List Cell
cells_from left [] = []
cells_from left (line ∷ lines) = cell_of line.session (left line.session) ∷ cells_from (left_after left line.session) lines

-- what each line of a script comes to
abbrev pub cells_of : List LogEvent → List Line → List Cell
cells_of log lines = cells_from (λ session. log) lines

-- the events that are left behind the places of sessions
abbrev pub left_behind : List LogEvent → List ℕ → ℕ → List LogEvent
left_behind log places session = drop (unwrap_or (of_session places session) 0) log
