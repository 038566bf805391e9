-- The output of a report, in lines or in JSON, or of a refused file, and how the run ends.
use Rattle.std.specs.Prelude.{ℕ, List, [], ◌∷◌, ◌++◌, Option, Some, None, Bool, true, false, not, ◌&&◌, cond, codes}
use Rattle.lab_history.specs.History.{History}
use Rattle.lab_history.specs.Version.{IsCommitted}
use Rattle.lab_history.specs.declared.fault.FileFault.{FileFault}
use Rattle.lab_judge.specs.FileFaultText.{file_fault_text}
use Rattle.lab_judge.specs.ReportText.{report_text}
use Rattle.lab_judge.specs.declared.report.Report.{Report}
use Rattle.lab_judge.specs.declared.serial.Serial.{Serial}
use Rattle.lab_judge.specs.declared.serial.Serial.TheVariants as serial
use Rattle.lab_reports.specs.RefusalTree.{refused_tree}
use Rattle.lab_reports.specs.Requirements.{meets, requirement_name}
use Rattle.lab_reports.specs.Shortfall.{shortfall_text}
use Rattle.lab_printing.specs.Printed.{newline}
use Rattle.lab_reports.specs.Tree.{tree_of, line_of}
use Rattle.lab_reports.specs.declared.requirement.Requirement.{Requirement}
use Rattle.lab_streams.specs.declared.ending.Ending.{Ending}
use Rattle.lab_streams.specs.declared.ending.Ending.TheVariants.{Done, Unmet}
use Rattle.lab_streams.specs.declared.reporting.Format.{Format}
use Rattle.lab_streams.specs.declared.reporting.Format.TheVariants.{Lines, Json}

-- a report, of a file of this name where there is one
abbrev pub said_of : Format → Option (List ℕ) → Report → List ℕ
said_of Lines file report = report_text report
said_of Json file report = line_of (tree_of file report)

-- why there is no report on a file
abbrev pub refused_text : Format → Option (List ℕ) → FileFault → List ℕ
refused_text Lines file fault = file_fault_text fault
refused_text Json file fault = line_of (refused_tree file fault)

-- whether a serial verdict is a yes without a transaction
abbrev pub is_empty_yes : Serial → Bool
is_empty_yes (serial.Yes []) = true
is_empty_yes (serial.Yes (n ∷ order)) = false
is_empty_yes (serial.NoFault f) = false
is_empty_yes (serial.NoCycle walk) = false

-- whether a report says that no transaction of its history committed
abbrev pub is_idle : Report → Bool
is_idle report = is_empty_yes report.serial

-- a transaction of the history committed
abbrev pub HasCommitted : History → Type 0
HasCommitted h = (n : ℕ) × IsCommitted h n

-- whether a report keeps what is required: it meets it, and a transaction committed
abbrev pub keeps : Requirement → Report → Bool
keeps requirement report = meets requirement report && not (is_idle report)

-- how it ends, by what is required
abbrev pub ending_due : Option Requirement → Report → Ending
ending_due None report = Done
ending_due (Some requirement) report = cond (keeps requirement report) Done Unmet

-- what is required where no transaction committed
abbrev pub idle_text : Requirement → List ℕ
idle_text requirement = requirement_name requirement ++ codes " asked, no transaction committed"

-- why a report doesn't keep what is required
abbrev pub unkept_text : Requirement → Report → List ℕ
unkept_text requirement report = cond (is_idle report) (idle_text requirement) (shortfall_text requirement report)

-- a line with a file's name that says why its report doesn't keep what is required; nothing where it does
abbrev pub shortfall_line : List ℕ → Option Requirement → Report → List ℕ
shortfall_line file None report = []
shortfall_line file (Some requirement) report = cond (keeps requirement report) [] (file ++ codes ": " ++ unkept_text requirement report ++ newline)
