-- The JSON value of a report. The keys of each object are in the order of their bytes.
--
-- Origin: JSON: RFC 8259; the keys are this project's profile.
use Rattle.std.specs.Prelude.{ℕ, Option, Some, None, List, [], ◌∷◌, ◌++◌, fold, codes}
use Rattle.serde_json.specs.Data.{Data, string, object, Members, no_members, member, put}
use Rattle.serde_json.specs.Written.{compact_text}
use Rattle.lab_table.specs.Row.{Row}
use Rattle.lab_printing.specs.Printed.{newline}
use Rattle.lab_history_file.specs.Tree.{natural_tree, list_tree}
use Rattle.lab_deps.specs.FaultKinds.{op_entry, row_entry, parts_of}
use Rattle.lab_deps.specs.declared.edge.Edge.{Edge}
use Rattle.lab_deps.specs.declared.fault.FaultParts.{FaultParts}
use Rattle.lab_deps.specs.declared.fault.FaultParts.TheVariants as parts
use Rattle.lab_deps.specs.declared.fault.LocalFault.{LocalFault}
use Rattle.lab_judge.specs.ReportText.{grade_name, kind_name}
use Rattle.lab_judge.specs.Runs.{Span}
use Rattle.lab_judge.specs.declared.places.Point.{Point}
use Rattle.lab_judge.specs.declared.places.Point.TheVariants as point
use Rattle.lab_judge.specs.declared.places.Places.{Places}
use Rattle.lab_judge.specs.declared.places.Places.TheVariants as places
use Rattle.lab_judge.specs.declared.serial.Serial.{Serial}
use Rattle.lab_judge.specs.declared.serial.Serial.TheVariants as serial
use Rattle.lab_judge.specs.declared.report.Finding.{Finding}
use Rattle.lab_judge.specs.declared.report.Finding.TheVariants as finding
use Rattle.lab_judge.specs.declared.report.Report.{Report}
use Rattle.lab_reports.specs.Phenomena.{phenomena, phenomenon_name, finding_of}
use Rattle.lab_reports.specs.declared.phenomenon.Phenomenon.{Phenomenon}

-- ---- objects

-- values, each behind its key
abbrev pub members_of : List (List ℕ × Data) → Members
members_of [] = no_members
members_of (m ∷ ms) = member m.0 m.1 (members_of ms)

abbrev pub object_of : List (List ℕ × Data) → Data
object_of ms = object (members_of ms)

-- ---- what a verdict shows

-- {from, id, kind, table, to}
abbrev pub edge_tree : Edge → Data
edge_tree e = object_of (
    (codes "from", natural_tree e.from)
    ∷ (codes "id", natural_tree e.row.id)
    ∷ (codes "kind", string (kind_name e.kind))
    ∷ (codes "table", string e.row.table)
    ∷ (codes "to", natural_tree e.to)
    ∷ [])

-- {id, op, table, txn}
abbrev pub read_tree : ℕ → ℕ → Row → Data
read_tree n k row = object_of (
    (codes "id", natural_tree row.id)
    ∷ (codes "op", natural_tree k)
    ∷ (codes "table", string row.table)
    ∷ (codes "txn", natural_tree n)
    ∷ [])

-- {code, id, kind, op, table, txn}, or {code, id, kind, table} of a fault at a row alone
abbrev pub parts_tree : FaultParts → Data
parts_tree (parts.Operation kind n k row) = object_of (
    (codes "code", string (op_entry kind).code)
    ∷ (codes "id", natural_tree row.id)
    ∷ (codes "kind", string (op_entry kind).name)
    ∷ (codes "op", natural_tree k)
    ∷ (codes "table", string row.table)
    ∷ (codes "txn", natural_tree n)
    ∷ [])
parts_tree (parts.Row kind row) = object_of (
    (codes "code", string (row_entry kind).code)
    ∷ (codes "id", natural_tree row.id)
    ∷ (codes "kind", string (row_entry kind).name)
    ∷ (codes "table", string row.table)
    ∷ [])

abbrev pub fault_tree : LocalFault → Data
fault_tree f = parts_tree (parts_of f)

-- {commit, start, txn}
abbrev pub span_tree : Span → Data
span_tree s = object_of ((codes "commit", natural_tree s.commit) ∷ (codes "start", natural_tree s.start) ∷ (codes "txn", natural_tree s.txn) ∷ [])

-- {point, txn}
abbrev pub point_tree : Point → Data
point_tree (point.Start n) = object_of ((codes "point", string (codes "start")) ∷ (codes "txn", natural_tree n) ∷ [])
point_tree (point.Commit n) = object_of ((codes "point", string (codes "commit")) ∷ (codes "txn", natural_tree n) ∷ [])

-- ---- verdicts

-- a verdict in a word, behind what shows it
abbrev pub verdict : List ℕ → List (List ℕ × Data)
verdict word = (codes "verdict", string word) ∷ []

-- {order, verdict}, {fault, verdict} or {cycle, verdict}
abbrev pub serial_tree : Serial → Data
serial_tree (serial.Yes order) = object_of ((codes "order", list_tree natural_tree order) ∷ verdict (codes "yes"))
serial_tree (serial.NoFault f) = object_of ((codes "fault", fault_tree f) ∷ verdict (codes "no"))
serial_tree (serial.NoCycle walk) = object_of ((codes "cycle", list_tree edge_tree walk) ∷ verdict (codes "no"))

-- {places, verdict}, {fault, verdict} or {cycle, verdict}
abbrev pub places_tree : Places → Data
places_tree (places.Yes spans) = object_of ((codes "places", list_tree span_tree spans) ∷ verdict (codes "yes"))
places_tree (places.NoFault f) = object_of ((codes "fault", fault_tree f) ∷ verdict (codes "no"))
places_tree (places.NoCycle points) = object_of ((codes "cycle", list_tree point_tree points) ∷ verdict (codes "no"))

-- {verdict}, {cycle, verdict} or {read, verdict}
abbrev pub finding_tree : Finding → Data
finding_tree finding.Absent = object_of (verdict (codes "absent"))
finding_tree (finding.Walk walk) = object_of ((codes "cycle", list_tree edge_tree walk) ∷ verdict (codes "present"))
finding_tree (finding.At n k row) = object_of ((codes "read", read_tree n k row) ∷ verdict (codes "present"))
finding_tree finding.NotJudged = object_of (verdict (codes "not judged"))

-- ---- the whole

-- members, and what a report finds of a phenomenon at its name
abbrev pub with_finding : Report → Members → Phenomenon → Members
with_finding report ms p = put (phenomenon_name p) (finding_tree (finding_of p report)) ms

-- what is found of each phenomenon, at its name
abbrev pub phenomena_tree : Report → Data
phenomena_tree report = object (fold (with_finding report) no_members phenomena)

-- members, behind the name of the file that they are about, where it is said
abbrev pub about : Option (List ℕ) → List (List ℕ × Data) → Data
about None ms = object_of ms
about (Some file) ms = object_of ((codes "file", string file) ∷ ms)

-- {level, phenomena, serializable, snapshot}
abbrev pub tree_of : Option (List ℕ) → Report → Data
tree_of file report = about file (
    (codes "level", string (grade_name report.level))
    ∷ (codes "phenomena", phenomena_tree report)
    ∷ (codes "serializable", serial_tree report.serial)
    ∷ (codes "snapshot", places_tree report.snapshot)
    ∷ [])

-- a value's line
abbrev pub line_of : Data → List ℕ
line_of d = compact_text d ++ newline
