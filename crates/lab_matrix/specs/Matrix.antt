-- The matrix: for each case and each level, the judgement of a recording.
use Rattle.std.specs.Prelude.{◌≡◌, ◌≢◌, ◌⊎◌, ◌<◌, ℕ, List, Ok}
use Rattle.lab_history.specs.History.{History}
use Rattle.lab_history.specs.FirstPartsFault.{checked}
use Rattle.lab_engine.specs.declared.event.Level.{Level}
use Rattle.lab_engine.specs.declared.event.Level.TheVariants as level
use Rattle.lab_engine.specs.declared.event.LogEvent.{LogEvent}
use Rattle.lab_engine.specs.RecordedLog.{RecordedLog}
use Rattle.lab_engine.specs.Log.{past_of}
use Rattle.lab_engine.specs.Recording.{IsRecording}
use Rattle.lab_session.specs.Play.{given_lines, IsLegalPlay, IsScriptedFault}
use Rattle.lab_session.specs.declared.fault.PlayFault.{PlayFault}
use Rattle.lab_session.specs.declared.fault.PlayFault.TheVariants as play_fault
use Rattle.lab_judge.specs.Judgement.{IsExactJudgement}
use Rattle.lab_judge.specs.Promises.{IsPromised}
use Rattle.lab_judge.specs.declared.report.Report.{Report}
use Rattle.lab_matrix.specs.Listings.{usual_setup, listing}
use Rattle.lab_matrix.specs.EnginePromise.{Says, promise_of}
use Rattle.lab_matrix.specs.declared.name.CaseName.{CaseName}
use Rattle.lab_matrix.specs.declared.name.CaseName.TheVariants as name
use Rattle.lab_matrix.specs.declared.cells.Column.{Column}
use Rattle.lab_matrix.specs.declared.cells.Column.TheVariants as column
use Rattle.lab_matrix.specs.declared.cells.Row.{Row}
use Rattle.lab_matrix.specs.declared.cells.Matrix.{Matrix}
use Rattle.lab_matrix.specs.declared.filling.MatrixFault.{MatrixFault}
use Rattle.lab_matrix.specs.declared.filling.MatrixFault.TheVariants.{NoMemory, Play}

-- the report is the judgement of a recording at the level, with the setup of the cases, whose log is legal and follows the case's script to its end, and whose history has no fault; and it says what the level promises
pub record IsCell (case : CaseName) (level : Level) (report : Report) : Type 0 where
  pub recording : RecordedLog
  pub level_is : recording.level ≡ level
  pub setup_is : recording.setup ≡ usual_setup
  pub play : IsLegalPlay level usual_setup (given_lines (listing case)) recording.log
  pub history : IsRecording usual_setup (past_of recording.log) recording.history
  pub whole : checked recording.history ≡ Ok tt
  pub judged : IsExactJudgement recording.history report
  pub promised : IsPromised level report

-- the level of a column
abbrev pub level_of : Column → Level
level_of column.Locking = level.Locking
level_of column.Committed = level.Committed
level_of column.Snapshot = level.Snapshot

-- the report of a row in a column
abbrev pub report_at : Row → Column → Report
report_at row column.Locking = row.locking
report_at row column.Committed = row.committed
report_at row column.Snapshot = row.snapshot

-- the row of a case
abbrev pub row_of : Matrix → CaseName → Row
row_of matrix name.G0 = matrix.g0
row_of matrix name.G1a = matrix.g1a
row_of matrix name.G1b = matrix.g1b
row_of matrix name.G1c = matrix.g1c
row_of matrix name.Otv = matrix.otv
row_of matrix name.Pmp = matrix.pmp
row_of matrix name.P4 = matrix.p4
row_of matrix name.GSingle = matrix.g_single
row_of matrix name.G2Item = matrix.g2_item
row_of matrix name.G2 = matrix.g2

-- the report of a case in a column
abbrev pub cell_of : Matrix → CaseName → Column → Report
cell_of matrix case in_column = report_at (row_of matrix case) in_column

-- each report of a row is the judgement of its case
abbrev pub IsRow : CaseName → Row → Type 0
IsRow case row = (at : Column) → IsCell case (level_of at) (report_at row at)

-- each cell is
abbrev pub AreCells : Matrix → Type 0
AreCells matrix = (case : CaseName) (at : Column) → IsCell case (level_of at) (cell_of matrix case at)

-- each cell says what the engine of its level promises
abbrev pub KeepsPromises : Matrix → Type 0
KeepsPromises matrix = (case : CaseName) (at : Column) → Says (promise_of (level_of at)) (cell_of matrix case at)

-- the play of a case at a level has a recording
pub record IsRecorded (case : CaseName) (level : Level) : Type 0 where
  pub log : List LogEvent
  pub told : History
  pub play : IsLegalPlay level usual_setup (given_lines (listing case)) log
  pub history : IsRecording usual_setup (past_of log) told
  pub whole : checked told ≡ Ok tt

-- the cases in their order
abbrev pub case_place : CaseName → ℕ
case_place name.G0 = 0
case_place name.G1a = 1
case_place name.G1b = 2
case_place name.G1c = 3
case_place name.Otv = 4
case_place name.Pmp = 5
case_place name.P4 = 6
case_place name.GSingle = 7
case_place name.G2Item = 8
case_place name.G2 = 9

-- the columns in their order
abbrev pub column_place : Column → ℕ
column_place column.Locking = 0
column_place column.Committed = 1
column_place column.Snapshot = 2

-- a cell stands before another: in the row of an earlier case, or in an earlier column of the same one
abbrev pub Precedes : CaseName → Column → CaseName → Column → Type 0
Precedes case at other under = (case_place case < case_place other) ⊎ ((case ≡ other) × (column_place at < column_place under))

-- the play of a case at a level has no recording, and memory wasn't wanting for it
abbrev pub IsUnrecorded : CaseName → Level → PlayFault → Type 0
IsUnrecorded case level fault = (fault ≢ play_fault.NoMemory) × IsScriptedFault level usual_setup (given_lines (listing case)) fault

-- a refusal is that of a case at a level
abbrev pub IsCellFault : CaseName → Level → MatrixFault → Type 0
IsCellFault own at NoMemory = Unit {0}
IsCellFault own at (Play case level fault) = (case ≡ own) × (level ≡ at) × IsUnrecorded case level fault

-- a refusal is the first of a row
abbrev pub IsRowFault : CaseName → MatrixFault → Type 0
IsRowFault own NoMemory = Unit {0}
IsRowFault own (Play case level fault) = (under : Column) × (level ≡ level_of under) × (case ≡ own) × IsUnrecorded case level fault
    × ((at : Column) → column_place at < column_place under → IsRecorded own (level_of at))

-- the matrix has a column of a level, and the play of each cell before a case's cell in it has a recording
pub record IsFirstCell (case : CaseName) (level : Level) : Type 0 where
  pub column : Column
  pub level_is : level ≡ level_of column
  pub before : (other : CaseName) (at : Column) → Precedes other at case column → IsRecorded other (level_of at)

-- a refusal is true: the play of that case at that level has no recording, and that of each cell before it has
abbrev pub IsMatrixFault : MatrixFault → Type 0
IsMatrixFault NoMemory = Unit {0}
IsMatrixFault (Play case level fault) = IsUnrecorded case level fault × IsFirstCell case level
