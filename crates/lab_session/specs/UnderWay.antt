-- A play by one thread after each event.
use Rattle.std.specs.Prelude.{◌≡◌, ◌==◌, ℕ, ◌+◌, ◌≤◌, cond, List, [], ◌∷◌, ◌++◌, length, drop, unwrap_or, ⊤}
use Rattle.lab_table.specs.Sessions.{of_session}
use Rattle.lab_table.specs.Table.{Table}
use Rattle.lab_table.specs.declared.statement.Command.{Command}
use Rattle.lab_engine.specs.declared.event.Level.{Level}
use Rattle.lab_engine.specs.declared.event.Outcome.{Outcome}
use Rattle.lab_engine.specs.declared.event.LogEvent.{LogEvent}
use Rattle.lab_engine.specs.Log.{Past, past_of}
use Rattle.lab_engine.specs.Recording.{Line, given, lines_by, next_line, AllFollowScript}
use Rattle.lab_engine.specs.LeastCircle.{NamesLeastOf, AllNameLeast}
use Rattle.lab_engine.specs.Journal.{EngineRun}
use Rattle.lab_script.specs.declared.script.Line.{Line as ScriptLine}
use Rattle.lab_script.specs.Ranges.{SessionInRange}
use Rattle.lab_session.specs.Bench.{IsSoundRun}
use Rattle.lab_session.specs.Play.{given_lines}
use Rattle.lab_session.specs.declared.scripted.Front.{Front}

-- how many are counted for a session
abbrev pub count_of : List ℕ → ℕ → ℕ
count_of counts session = unwrap_or (of_session counts session) 0

-- the numbers kept of the sessions
abbrev pub AreCounts : (ℕ → ℕ) → List ℕ → Type 0
AreCounts of counts = (session : ℕ) → SessionInRange session → count_of counts session ≡ of session

-- one session has one more
abbrev pub HasOneMore : ℕ → List ℕ → List ℕ → Type 0
HasOneMore session old new = (s : ℕ) → count_of new s ≡ cond (session == s) 1 0 + count_of old s

-- each event is a session's
abbrev pub AllOfSessions : Past → Type 0
AllOfSessions [] = ⊤
AllOfSessions (event ∷ past) = AllOfSessions past × SessionInRange event.session

-- a log has one more event, of this session and command, which names the least cycle where it names one
abbrev pub HasMore : Level → Table → List LogEvent → List LogEvent → ℕ → Command → Type 0
HasMore level setup old new session command = (outcome : Outcome) × (new ≡ old ++ record { session = session; command = command; outcome = outcome } ∷ [])
    × NamesLeastOf level setup (past_of old) session command outcome

-- a play that has followed a script so far, with how many lines each session has given
pub record IsUnderWay (run : EngineRun) (lines : List Line) (counts : List ℕ) : Type 0 where
  pub sound : IsSoundRun run
  pub follows : AllFollowScript run.level run.setup lines (past_of run.log)
  pub least : AllNameLeast run.level run.setup (past_of run.log)
  pub of_sessions : AllOfSessions (past_of run.log)
  pub counted : AreCounts (given (past_of run.log)) counts

-- lines at the front of a script: where their sessions have given as many, the next line is looked for behind them
pub record IsBehind (lines : List ScriptLine) (front : Front) : Type 0 where
  pub passed : List Line
  pub counted : AreCounts (λ session. lines_by session passed) front.of_sessions
  pub few : (session : ℕ) → SessionInRange session → count_of front.of_sessions session ≤ front.lines
  pub within : front.lines ≤ length lines
  pub skips : (past : Past) → ((session : ℕ) → SessionInRange session → lines_by session passed ≤ given past session)
      → next_line past [] (given_lines lines) ≡ next_line past passed (given_lines (drop front.lines lines))

-- each session has given as many lines as it has at the front
abbrev pub IsCovered : Past → Front → Type 0
IsCovered past front = (session : ℕ) → SessionInRange session → count_of front.of_sessions session ≤ given past session
