-- The line on a report that doesn't meet a requirement: its level, and the first phenomenon that keeps it from the
-- next level.
use Rattle.std.specs.Prelude.{ℕ, nat_le, Bool, true, false, Option, Some, None, List, [], ◌∷◌, ◌++◌, length, take, codes, find, if◌then◌else◌}
use Rattle.lab_judge.specs.ReportText.{circle_text, fault_text, grade_name}
use Rattle.lab_judge.specs.declared.places.Places.{Places}
use Rattle.lab_judge.specs.declared.places.Places.TheVariants as places
use Rattle.lab_judge.specs.declared.serial.Serial.{Serial}
use Rattle.lab_judge.specs.declared.serial.Serial.TheVariants as serial
use Rattle.lab_judge.specs.declared.report.Finding.{Finding}
use Rattle.lab_judge.specs.declared.report.Finding.TheVariants as finding
use Rattle.lab_judge.specs.declared.report.Grade.{Grade}
use Rattle.lab_judge.specs.declared.report.Grade.TheVariants as grade
use Rattle.lab_judge.specs.declared.report.Report.{Report}
use Rattle.lab_reports.specs.Phenomena.{phenomenon_name, finding_of}
use Rattle.lab_reports.specs.Requirements.{requirement_name}
use Rattle.lab_reports.specs.declared.phenomenon.Phenomenon.{Phenomenon}
use Rattle.lab_reports.specs.declared.phenomenon.Phenomenon.TheVariants.{G0, G1a, G1b, G1c, G2Item, G2}
use Rattle.lab_reports.specs.declared.requirement.Requirement.{Requirement}
use Rattle.lab_reports.specs.declared.requirement.Requirement.TheVariants.{Pl1, Pl2, Pl299, Pl3, Snapshot}

-- ---- a level

-- whether a phenomenon is there
abbrev pub is_present : Finding → Bool
is_present finding.Absent = false
is_present (finding.Walk walk) = true
is_present (finding.At n k row) = true
is_present finding.NotJudged = false

-- whether it wasn't looked for
abbrev pub is_unjudged : Finding → Bool
is_unjudged finding.Absent = false
is_unjudged (finding.Walk walk) = false
is_unjudged (finding.At n k row) = false
is_unjudged finding.NotJudged = true

-- the first of some phenomena of which this is found
abbrev pub first_found : (Finding → Bool) → Report → List Phenomenon → Option Phenomenon
first_found test report among = find (λ p. test (finding_of p report)) among

-- a phenomenon that is there, or else one that wasn't looked for
abbrev pub bar_text : Option Phenomenon → Option Phenomenon → List ℕ
bar_text (Some p) other = codes ": " ++ phenomenon_name p ++ codes " present"
bar_text None (Some p) = codes ": " ++ phenomenon_name p ++ codes " not judged"
bar_text None None = []

-- behind a level: the first of the phenomena, of which the next level has none, that is there
abbrev pub barred_text : List Phenomenon → Report → List ℕ
barred_text among report = codes " found" ++ bar_text (first_found is_present report among) (first_found is_unjudged report among)

-- behind `unsound`: what is wrong
abbrev pub unsound_text : Serial → List ℕ
unsound_text (serial.Yes order) = []
unsound_text (serial.NoFault f) = codes ": " ++ fault_text f
unsound_text (serial.NoCycle walk) = []

-- behind the level that a report found, what keeps the history from the next one
abbrev pub behind_level : Grade → Report → List ℕ
behind_level grade.BelowPl1 report = barred_text (G0 ∷ []) report
behind_level grade.Pl1 report = barred_text (G1a ∷ G1b ∷ G1c ∷ []) report
behind_level grade.Pl2 report = barred_text (G2Item ∷ []) report
behind_level grade.Pl299 report = barred_text (G2 ∷ []) report
behind_level grade.Pl3 report = barred_text [] report
behind_level grade.Unsound report = unsound_text report.serial

abbrev pub level_text : Report → List ℕ
level_text report = grade_name report.level ++ behind_level report.level report

-- ---- snapshots

-- a snapshot verdict, and why it is no, as its line says it
abbrev pub verdict_text : Places → List ℕ
verdict_text (places.Yes spans) = codes "yes"
verdict_text (places.NoFault f) = codes "no " ++ fault_text f
verdict_text (places.NoCycle points) = codes "no" ++ circle_text points

-- the most bytes of a snapshot verdict that are shown
abbrev pub max_shown : ℕ
max_shown = 200

-- a text, or as much of it as is shown
abbrev pub cut : List ℕ → List ℕ
cut text = if nat_le (length text) max_shown then text else take max_shown text ++ codes " .."

abbrev pub snapshot_text : Report → List ℕ
snapshot_text report = codes "snapshot: " ++ cut (verdict_text report.snapshot)

-- ---- the whole

-- what there is in place of what is asked for
abbrev pub instead_text : Requirement → Report → List ℕ
instead_text Pl1 report = level_text report
instead_text Pl2 report = level_text report
instead_text Pl299 report = level_text report
instead_text Pl3 report = level_text report
instead_text Snapshot report = snapshot_text report

-- what is asked for, and what there is in its place
abbrev pub shortfall_text : Requirement → Report → List ℕ
shortfall_text requirement report = requirement_name requirement ++ codes " asked, " ++ instead_text requirement report
