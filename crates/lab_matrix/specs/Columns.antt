-- The cases at several levels, one level after another: their judgements and their text.
use Rattle.std.specs.Prelude.{◌≡◌, ◌⊎◌, ◌<◌, ◌-◌, ℕ, ⊤, List, [], ◌∷◌, ◌++◌, length, codes}
use Rattle.lab_printing.specs.Printed.{newline}
use Rattle.lab_engine.specs.declared.event.Level.{Level}
use Rattle.lab_levels.specs.LevelName.{level_name}
use Rattle.lab_judge.specs.declared.report.Report.{Report}
use Rattle.lab_matrix.specs.EnginePromise.{Says, promise_of, promise_name}
use Rattle.lab_matrix.specs.Matrix.{IsCell, IsRecorded, IsUnrecorded, case_place}
use Rattle.lab_matrix.specs.MatrixText.{case_name, cell_text, spaces}
use Rattle.lab_matrix.specs.declared.name.CaseName.{CaseName}
use Rattle.lab_matrix.specs.declared.name.CaseName.TheVariants as name
use Rattle.lab_matrix.specs.declared.columns.CaseReports.{CaseReports}
use Rattle.lab_matrix.specs.declared.columns_text.Line.{Line}
use Rattle.lab_matrix.specs.declared.columns_text.Line.TheVariants.{Heading, Case, Promised}
use Rattle.lab_matrix.specs.declared.filling.MatrixFault.{MatrixFault}
use Rattle.lab_matrix.specs.declared.filling.MatrixFault.TheVariants.{NoMemory, Play}

-- the report of a case
abbrev pub report_of : CaseReports → CaseName → Report
report_of reports name.G0 = reports.g0
report_of reports name.G1a = reports.g1a
report_of reports name.G1b = reports.g1b
report_of reports name.G1c = reports.g1c
report_of reports name.Otv = reports.otv
report_of reports name.Pmp = reports.pmp
report_of reports name.P4 = reports.p4
report_of reports name.GSingle = reports.g_single
report_of reports name.G2Item = reports.g2_item
report_of reports name.G2 = reports.g2

-- these are the judgements of the cases at a level
pub record AreReports (level : Level) (reports : CaseReports) : Type 0 where
  pub at_level : reports.level ≡ level
  pub cells : (case : CaseName) → IsCell case level (report_of reports case)

-- each says what the engine of the level promises
abbrev pub KeepPromise : Level → CaseReports → Type 0
KeepPromise level reports = (case : CaseName) → Says (promise_of level) (report_of reports case)

-- the play of each case at a level has a recording
abbrev pub AllRecorded : Level → Type 0
AllRecorded level = (case : CaseName) → IsRecorded case level

-- a refusal is the first at a level: the play of that case has no recording, and those of the cases before it have
abbrev pub IsFirstAt : Level → MatrixFault → Type 0
IsFirstAt own NoMemory = ⊤
IsFirstAt own (Play case level fault) = (level ≡ own) × IsUnrecorded case level fault × ((other : CaseName) → case_place other < case_place case → IsRecorded other own)

-- the judgements at levels, one after another
abbrev pub AreColumns : List Level → List CaseReports → Type 0
AreColumns [] [] = ⊤
AreColumns [] (column ∷ columns) = ⊥
AreColumns (level ∷ levels) [] = ⊥
AreColumns (level ∷ levels) (column ∷ columns) = AreReports level column × AreColumns levels columns

-- each says what the engine of its level promises
abbrev pub KeepPromises : List CaseReports → Type 0
KeepPromises [] = ⊤
KeepPromises (column ∷ columns) = KeepPromise column.level column × KeepPromises columns

-- a refusal is the first at one of these levels, and at those before it all plays have recordings
abbrev pub IsFirstAmong : List Level → MatrixFault → Type 0
IsFirstAmong [] fault = ⊥
IsFirstAmong (level ∷ levels) fault = IsFirstAt level fault ⊎ (AllRecorded level × IsFirstAmong levels fault)

-- a refusal at levels is true
abbrev pub IsColumnsFault : List Level → MatrixFault → Type 0
IsColumnsFault levels NoMemory = ⊤
IsColumnsFault levels (Play case level fault) = IsFirstAmong levels (Play case level fault)

-- ---- the text

-- what stands first in a line
abbrev pub lead_of : Line → List ℕ
lead_of Heading = codes "case"
lead_of (Case case) = case_name case
lead_of Promised = codes "promised"

-- what stands in a line in a column
abbrev pub text_in : Line → CaseReports → List ℕ
text_in Heading column = level_name column.level
text_in (Case case) column = cell_text (report_of column case)
text_in Promised column = promise_name (promise_of column.level)

-- the rest of a line, where so many spaces stand before the next column
abbrev pub rest_of : Line → ℕ → List CaseReports → List ℕ
rest_of line free [] = newline
rest_of line free (column ∷ columns) = spaces free ++ text_in line column ++ rest_of line (12 - length (text_in line column)) columns

-- a line
abbrev pub line_of : Line → List CaseReports → List ℕ
line_of line columns = lead_of line ++ rest_of line (10 - length (lead_of line)) columns

-- the line of the levels' names, a line for each case, and the line of what is promised
abbrev pub columns_text : List CaseReports → List ℕ
columns_text columns =
    line_of Heading columns ++ line_of (Case name.G0) columns ++ line_of (Case name.G1a) columns ++ line_of (Case name.G1b) columns ++ line_of (Case name.G1c) columns ++ line_of (Case name.Otv) columns
    ++ line_of (Case name.Pmp) columns ++ line_of (Case name.P4) columns ++ line_of (Case name.GSingle) columns ++ line_of (Case name.G2Item) columns ++ line_of (Case name.G2) columns ++ line_of Promised columns
