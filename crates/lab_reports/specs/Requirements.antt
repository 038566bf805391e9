-- The requirements of `--require`, and when a report meets one.
use Rattle.std.specs.Prelude.{ℕ, nat_le, Bool, true, false, Option, List, [], ◌∷◌, codes, find}
use Rattle.std.specs.Str.{bytes_eq}
use Rattle.lab_judge.specs.ReportText.{grade_name}
use Rattle.lab_judge.specs.declared.places.Places.{Places}
use Rattle.lab_judge.specs.declared.places.Places.TheVariants.{Yes, NoFault, NoCycle}
use Rattle.lab_judge.specs.declared.report.Grade.{Grade}
use Rattle.lab_judge.specs.declared.report.Grade.TheVariants as grade
use Rattle.lab_judge.specs.declared.report.Report.{Report}
use Rattle.lab_reports.specs.declared.requirement.Requirement.{Requirement}
use Rattle.lab_reports.specs.declared.requirement.Requirement.TheVariants.{Pl1, Pl2, Pl299, Pl3, Snapshot}

-- all of them: the levels as they rise, and that the history is a snapshot run
abbrev pub requirements : List Requirement
requirements = Pl1 ∷ Pl2 ∷ Pl299 ∷ Pl3 ∷ Snapshot ∷ []

-- the name of a requirement: a level's as a report prints it
abbrev pub requirement_name : Requirement → List ℕ
requirement_name Pl1 = grade_name grade.Pl1
requirement_name Pl2 = grade_name grade.Pl2
requirement_name Pl299 = grade_name grade.Pl299
requirement_name Pl3 = grade_name grade.Pl3
requirement_name Snapshot = codes "SI"

-- the first of some requirements that has this name
abbrev pub first_required : List ℕ → List Requirement → Option Requirement
first_required name among = find (λ r. bytes_eq (requirement_name r) name) among

-- the requirement of a name, if there is one
abbrev pub required : List ℕ → Option Requirement
required name = first_required name requirements

-- how many of the levels PL-1, PL-2, PL-2.99 and PL-3 a history of this grade meets; an unsound one meets none
abbrev pub levels_met : Grade → ℕ
levels_met grade.BelowPl1 = 0
levels_met grade.Pl1 = 1
levels_met grade.Pl2 = 2
levels_met grade.Pl299 = 3
levels_met grade.Pl3 = 4
levels_met grade.Unsound = 0

-- whether a history is a snapshot run
abbrev pub is_yes : Places → Bool
is_yes (Yes spans) = true
is_yes (NoFault f) = false
is_yes (NoCycle points) = false

-- whether a report meets a requirement: its level is the one that is asked for or a higher one, or its snapshot verdict is yes
abbrev pub meets : Requirement → Report → Bool
meets Pl1 report = nat_le 1 (levels_met report.level)
meets Pl2 report = nat_le 2 (levels_met report.level)
meets Pl299 report = nat_le 3 (levels_met report.level)
meets Pl3 report = nat_le 4 (levels_met report.level)
meets Snapshot report = is_yes report.snapshot
