-- The ten lines of a report.
--
-- Origin: names of phenomena and levels, and how cycles are written: Adya, Liskov and O'Neil, "Generalized Isolation
-- Level Definitions" (2000); the rest is this project's profile.
use Rattle.std.specs.Prelude.{ℕ, List, [], ◌∷◌, ◌++◌, flat_map, codes}
use Rattle.std.specs.Fmt.{decimal}
use Rattle.lab_table.specs.Row.{Row}
use Rattle.lab_printing.specs.Printed.{printed_row_name, newline}
use Rattle.lab_deps.specs.FaultKinds.{KindEntry, op_entry, row_entry, parts_of}
use Rattle.lab_deps.specs.declared.fault.FaultParts.{FaultParts}
use Rattle.lab_deps.specs.declared.fault.FaultParts.TheVariants as parts
use Rattle.lab_deps.specs.declared.fault.LocalFault.{LocalFault}
use Rattle.lab_deps.specs.declared.edge.Kind.{Kind}
use Rattle.lab_deps.specs.declared.edge.Kind.TheVariants as kind
use Rattle.lab_deps.specs.declared.edge.Edge.{Edge}
use Rattle.lab_judge.specs.Runs.{Span}
use Rattle.lab_judge.specs.Findings as found
use Rattle.lab_judge.specs.declared.places.Point.{Point}
use Rattle.lab_judge.specs.declared.places.Point.TheVariants as point
use Rattle.lab_judge.specs.declared.places.Places.{Places}
use Rattle.lab_judge.specs.declared.places.Places.TheVariants as places
use Rattle.lab_judge.specs.declared.serial.Serial.{Serial}
use Rattle.lab_judge.specs.declared.serial.Serial.TheVariants as serial
use Rattle.lab_judge.specs.declared.report.Finding.{Finding}
use Rattle.lab_judge.specs.declared.report.Finding.TheVariants as finding
use Rattle.lab_judge.specs.declared.report.Grade.{Grade}
use Rattle.lab_judge.specs.declared.report.Grade.TheVariants as grade
use Rattle.lab_judge.specs.declared.report.Report.{Report}

-- a transaction, with the space before it
abbrev pub txn_text : ℕ → List ℕ
txn_text n = codes " T" ++ decimal n

-- a row, with the space before it
abbrev pub row_text : Row → List ℕ
row_text row = codes " row " ++ printed_row_name row

-- an operation of a transaction at a row, with the space before it
abbrev pub place_text : ℕ → ℕ → Row → List ℕ
place_text n k row = txn_text n ++ codes " op " ++ decimal k ++ row_text row

-- the code and the name of a kind of fault
abbrev pub fault_kind_text : KindEntry → List ℕ
fault_kind_text entry = entry.code ++ codes " " ++ entry.name

-- what is wrong at an operation and a row, or at a row alone
abbrev pub parts_text : FaultParts → List ℕ
parts_text (parts.Operation kind n k row) = fault_kind_text (op_entry kind) ++ place_text n k row
parts_text (parts.Row kind row) = fault_kind_text (row_entry kind) ++ row_text row

-- what is wrong with a history at one place
abbrev pub fault_text : LocalFault → List ℕ
fault_text f = parts_text (parts_of f)

-- a kind of dependency
abbrev pub kind_name : Kind → List ℕ
kind_name kind.Write = codes "ww"
kind_name kind.ItemRead = codes "wr"
kind_name kind.PredicateRead = codes "wr-p"
kind_name kind.ItemAnti = codes "rw"
kind_name kind.PredicateAnti = codes "rw-p"

-- a dependency and the transaction that it leads to, with the space before it
abbrev pub step_text : Edge → List ℕ
step_text e = codes " " ++ kind_name e.kind ++ codes "(" ++ printed_row_name e.row ++ codes ")" ++ txn_text e.to

-- a walk: the transaction where it begins, then each dependency with the next one
abbrev pub walk_text : List Edge → List ℕ
walk_text [] = []
walk_text (e ∷ es) = txn_text e.from ++ flat_map step_text (e ∷ es)

-- whether a history is serializable, and why
abbrev pub serial_text : Serial → List ℕ
serial_text (serial.Yes order) = codes "yes" ++ flat_map txn_text order
serial_text (serial.NoFault f) = codes "no " ++ fault_text f
serial_text (serial.NoCycle walk) = codes "no" ++ walk_text walk

-- a transaction with the places of its start and its commit, with the space before it
abbrev pub span_text : Span → List ℕ
span_text s = txn_text s.txn ++ codes " " ++ decimal s.start ++ codes "-" ++ decimal s.commit

-- a start or a commit of a transaction, with the space before it
abbrev pub point_text : Point → List ℕ
point_text (point.Start n) = codes " s" ++ decimal n
point_text (point.Commit n) = codes " c" ++ decimal n

-- a cycle: its points, and the first of them again
abbrev pub circle_text : List Point → List ℕ
circle_text [] = []
circle_text (p ∷ ps) = flat_map point_text (p ∷ ps) ++ point_text p

-- whether a history is a snapshot run, and why
abbrev pub places_text : Places → List ℕ
places_text (places.Yes spans) = codes "yes" ++ flat_map span_text spans
places_text (places.NoFault f) = codes "no " ++ fault_text f
places_text (places.NoCycle points) = codes "no" ++ circle_text points

-- whether a history has a phenomenon, and where
abbrev pub finding_text : Finding → List ℕ
finding_text finding.Absent = codes "absent"
finding_text (finding.Walk walk) = codes "present" ++ walk_text walk
finding_text (finding.At n k row) = codes "present" ++ place_text n k row
finding_text finding.NotJudged = codes "not judged"

-- the level that a history meets
abbrev pub grade_name : Grade → List ℕ
grade_name grade.BelowPl1 = codes "below PL-1"
grade_name grade.Pl1 = codes "PL-1"
grade_name grade.Pl2 = codes "PL-2"
grade_name grade.Pl299 = codes "PL-2.99"
grade_name grade.Pl3 = codes "PL-3"
grade_name grade.Unsound = codes "unsound"

-- a line: what it is about, and what is said of it
abbrev pub line_text : List ℕ → List ℕ → List ℕ
line_text about said = about ++ codes ": " ++ said ++ newline

-- a report
abbrev pub report_text : Report → List ℕ
report_text report =
    line_text (codes "serializable") (serial_text report.serial)
    ++ line_text (codes "snapshot") (places_text report.snapshot)
    ++ line_text (codes "G0") (finding_text (found.g0 report.phenomena))
    ++ line_text (codes "G1a") (finding_text (found.g1a report.phenomena))
    ++ line_text (codes "G1b") (finding_text (found.g1b report.phenomena))
    ++ line_text (codes "G1c") (finding_text (found.g1c report.phenomena))
    ++ line_text (codes "G-single") (finding_text (found.g_single report.phenomena))
    ++ line_text (codes "G2-item") (finding_text (found.g2_item report.phenomena))
    ++ line_text (codes "G2") (finding_text (found.g2 report.phenomena))
    ++ line_text (codes "level") (grade_name report.level)
