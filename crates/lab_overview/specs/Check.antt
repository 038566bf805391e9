-- How to check the verdict by hand, and the evidence: the report and the history.
use Rattle.std.specs.Prelude.{ℕ, nat_le, cond, Option, Some, None, List, [], ◌++◌, length, codes}
use Rattle.serde_json.specs.Written.{compact_text}
use Rattle.lab_history.specs.History.{History}
use Rattle.lab_history_file.specs.Tree.{tree_of}
use Rattle.lab_judge.specs.ReportText.{report_text}
use Rattle.lab_judge.specs.declared.report.Finding.{Finding}
use Rattle.lab_judge.specs.declared.report.Finding.TheVariants as finding
use Rattle.lab_judge.specs.declared.report.Report.{Report}
use Rattle.lab_judge.specs.declared.serial.Serial.{Serial}
use Rattle.lab_judge.specs.declared.serial.Serial.TheVariants as serial
use Rattle.lab_drawing.specs.Text.{escaped}
use Rattle.lab_reports.specs.Phenomena.{finding_of}
use Rattle.lab_reports.specs.declared.phenomenon.Phenomenon.{Phenomenon}
use Rattle.lab_overview.specs.Phrases.{check_order, check_cycle, check_fault, check_file, check_program}
use Rattle.lab_overview.specs.Tags.{check_head, report_head, file_open, history_head, page_close}

-- how a verdict is checked
abbrev pub serial_check : Serial → List ℕ
serial_check (serial.Yes order) = check_order
serial_check (serial.NoFault f) = check_fault
serial_check (serial.NoCycle walk) = check_cycle

-- how what is found of a phenomenon is
abbrev pub found_check : Finding → List ℕ
found_check finding.Absent = []
found_check (finding.Walk walk) = check_cycle
found_check (finding.At n k row) = check_fault
found_check finding.NotJudged = []

abbrev pub check_of : Report → Option Phenomenon → List ℕ
check_of report None = serial_check report.serial
check_of report (Some p) = found_check (finding_of p report)

-- the part
unfoldable pub check_part : Report → Option Phenomenon → List ℕ
check_part report asked =
    check_head ++ check_of report asked ++ check_file ++ check_program

-- the ten lines of the report
unfoldable pub report_part : Report → List ℕ
report_part report =
    report_head ++ escaped (report_text report) ++ codes "</pre>\n</section>\n"

-- the file of a history
unfoldable pub file_of : History → List ℕ
file_of h = compact_text (tree_of h)

-- a file that is put in
unfoldable pub file_text : List ℕ → List ℕ
file_text file = file_open ++ escaped file ++ codes "</pre>\n</details>\n"

-- what stands in place of one that is too long
unfoldable pub no_file : List ℕ
no_file = codes "<p>It has more than 65,536 bytes of JSON, and isn't here: attach the file.</p>\n"

-- a file, if it isn't too long
abbrev pub shown_file : List ℕ → List ℕ
shown_file file = cond (nat_le (length file) 65536) (file_text file) no_file

-- the history itself
unfoldable pub history_text : List ℕ → List ℕ
history_text file = history_head ++ shown_file file

-- the same, and the end of the page
unfoldable pub history_part : List ℕ → List ℕ
history_part file = history_text file ++ page_close
