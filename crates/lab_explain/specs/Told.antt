-- The phenomenon whose cycle is explained beside a serial verdict.
use Rattle.std.specs.Prelude.{ℕ, Bool, true, false, cond, Option, Some, None, List, [], ◌∷◌, find}
use Rattle.std.specs.Str.{bytes_eq}
use Rattle.lab_judge.specs.ReportText.{walk_text}
use Rattle.lab_judge.specs.declared.report.Finding.{Finding}
use Rattle.lab_judge.specs.declared.report.Finding.TheVariants.{Absent, Walk, At, NotJudged}
use Rattle.lab_judge.specs.declared.report.Report.{Report}
use Rattle.lab_judge.specs.declared.serial.Serial.{Serial}
use Rattle.lab_judge.specs.declared.serial.Serial.TheVariants as serial
use Rattle.lab_reports.specs.Phenomena.{phenomenon_name, finding_of}
use Rattle.lab_reports.specs.declared.phenomenon.Phenomenon.{Phenomenon}
use Rattle.lab_reports.specs.declared.phenomenon.Phenomenon.TheVariants.{G0, G1c, GSingle, G2Item, G2}
use Rattle.lab_drawing.specs.Cycles.{cycle_of}

-- the walk of a serial verdict as the report prints it; nothing where it has none
abbrev pub serial_walk : Serial → List ℕ
serial_walk (serial.Yes order) = []
serial_walk (serial.NoFault f) = []
serial_walk (serial.NoCycle walk) = walk_text walk

-- whether a phenomenon is present by a cycle
abbrev pub is_cycle : Finding → Bool
is_cycle Absent = false
is_cycle (Walk walk) = true
is_cycle (At n k row) = false
is_cycle NotJudged = false

-- the phenomena that may be present by a cycle, in a report's order
abbrev pub of_cycles : List Phenomenon
of_cycles = G0 ∷ G1c ∷ GSingle ∷ G2Item ∷ G2 ∷ []

-- the first of some phenomena that is present by a cycle
abbrev pub first_present : Report → List Phenomenon → Option Phenomenon
first_present report among = find (λ p. is_cycle (finding_of p report)) among

-- whether a phenomenon's cycle is that of the serial verdict, as the report prints them
unfoldable pub is_verdicts : Report → Phenomenon → Bool
is_verdicts report p = bytes_eq (walk_text (cycle_of (finding_of p report))) (serial_walk report.serial)

-- a phenomenon, where its cycle is another than the serial verdict's
abbrev pub other_than_verdicts : Report → Option Phenomenon → Option Phenomenon
other_than_verdicts report None = None
other_than_verdicts report (Some p) = cond (is_verdicts report p) None (Some p)

-- the phenomenon whose cycle is told beside the serial verdict: the first that is present by a cycle, where that is another than the verdict's
unfoldable pub told_of : Report → Option Phenomenon
told_of report = other_than_verdicts report (first_present report of_cycles)

-- whether a phenomenon is the one whose cycle is told
abbrev pub is_told : Option Phenomenon → Phenomenon → Bool
is_told None p = false
is_told (Some told) p = bytes_eq (phenomenon_name told) (phenomenon_name p)
