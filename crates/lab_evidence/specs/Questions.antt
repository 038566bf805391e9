-- The operations and rows that a verdict is about, each with its step of the verdict.
use Rattle.std.specs.Prelude.{ℕ, ◌+◌, min, cond, Option, Some, None, List, [], ◌∷◌, ◌++◌, length, take}
use Rattle.lab_table.specs.Row.{Row}
use Rattle.lab_history.specs.History.{History}
use Rattle.lab_deps.specs.FaultKinds.{parts_of}
use Rattle.lab_deps.specs.declared.edge.Edge.{Edge}
use Rattle.lab_deps.specs.declared.edge.Kind.{Kind}
use Rattle.lab_deps.specs.declared.edge.Kind.TheVariants.{Write, ItemRead, PredicateRead, ItemAnti, PredicateAnti}
use Rattle.lab_deps.specs.declared.fault.FaultParts.{FaultParts}
use Rattle.lab_deps.specs.declared.fault.FaultParts.TheVariants as parts
use Rattle.lab_judge.specs.declared.report.Finding.{Finding}
use Rattle.lab_judge.specs.declared.report.Finding.TheVariants as finding
use Rattle.lab_judge.specs.declared.report.Report.{Report}
use Rattle.lab_judge.specs.declared.serial.Serial.{Serial}
use Rattle.lab_judge.specs.declared.serial.Serial.TheVariants as serial
use Rattle.lab_drawing.specs.Cycles.{cycle_of}
use Rattle.lab_drawing.specs.Making.{arrow_of}
use Rattle.lab_drawing.specs.Rows.{is_named}
use Rattle.lab_drawing.specs.declared.drawing.Arrow.{Arrow}
use Rattle.lab_reports.specs.Phenomena.{finding_of}
use Rattle.lab_reports.specs.declared.phenomenon.Phenomenon.{Phenomenon}
use Rattle.lab_evidence.specs.declared.questions.Did.{Did}
use Rattle.lab_evidence.specs.declared.questions.Did.TheVariants.{Saw, Wrote}
use Rattle.lab_evidence.specs.declared.questions.Question.{Question}

-- the cycle of a verdict that is one
abbrev pub serial_cycle : Serial → List Edge
serial_cycle (serial.Yes order) = []
serial_cycle (serial.NoFault f) = []
serial_cycle (serial.NoCycle walk) = walk

-- the cycle that is told
abbrev pub told_cycle : Report → Option Phenomenon → List Edge
told_cycle report None = serial_cycle report.serial
told_cycle report (Some p) = cycle_of (finding_of p report)

-- the steps of it that are shown
abbrev pub shown_steps : List Edge → List Edge
shown_steps walk = take (min (length walk) 20) walk

-- what the operation that a dependency leads from did with the row
abbrev pub first_did : Kind → Did
first_did Write = Wrote
first_did ItemRead = Wrote
first_did PredicateRead = Wrote
first_did ItemAnti = Saw
first_did PredicateAnti = Saw

-- what the one that it leads to did
abbrev pub second_did : Kind → Did
second_did Write = Wrote
second_did ItemRead = Saw
second_did PredicateRead = Saw
second_did ItemAnti = Wrote
second_did PredicateAnti = Wrote

-- the questions of a dependency: the operations that make it
abbrev pub of_arrow : ℕ → Kind → Option Arrow → List Question
of_arrow step kind None = []
of_arrow step kind (Some a) =
    record { step = step; spot = a.from; row = a.row; did = first_did kind } ∷ record { step = step; spot = a.to; row = a.row; did = second_did kind } ∷ []

abbrev pub of_edge : History → ℕ → Edge → List Question
of_edge h step e = of_arrow step e.kind (arrow_of h e)

-- the questions of steps, where so many come before these
abbrev pub of_steps : History → ℕ → List Edge → List Question
of_steps h before [] = []
of_steps h before (e ∷ es) = of_edge h (before + 1) e ++ of_steps h (before + 1) es

-- the question of an operation that saw a row; it is of no step
abbrev pub of_place : ℕ → ℕ → Row → List Question
of_place n k row = record { step = 0; spot = record { txn = n; op = k }; row = row; did = Saw } ∷ []

-- the question of a fault, where it is at an operation
abbrev pub of_parts : FaultParts → List Question
of_parts (parts.Operation kind n k row) = of_place n k row
of_parts (parts.Row kind row) = []

-- the question of a verdict that is a fault
abbrev pub of_serial : Serial → List Question
of_serial (serial.Yes order) = []
of_serial (serial.NoFault f) = of_parts (parts_of f)
of_serial (serial.NoCycle walk) = []

-- the question of what is found at an operation
abbrev pub of_found : Finding → List Question
of_found finding.Absent = []
of_found (finding.Walk walk) = []
of_found (finding.At n k row) = of_place n k row
of_found finding.NotJudged = []

-- the question that is of no step
abbrev pub of_fault : Report → Option Phenomenon → List Question
of_fault report None = of_serial report.serial
of_fault report (Some p) = of_found (finding_of p report)

-- all questions
abbrev pub questions_of : History → Report → Option Phenomenon → List Question
questions_of h report asked = of_steps h 0 (shown_steps (told_cycle report asked)) ++ of_fault report asked

-- rows with this one, each once
abbrev pub with_row : List Row → Row → List Row
with_row rows row = cond (is_named rows row) rows (rows ++ row ∷ [])

-- rows with the rows of these questions
abbrev pub with_rows : List Row → List Question → List Row
with_rows rows [] = rows
with_rows rows (q ∷ qs) = with_rows (with_row rows q.row) qs

-- the row of a fault at a row alone
abbrev pub parts_row : FaultParts → List Row
parts_row (parts.Operation kind n k row) = []
parts_row (parts.Row kind row) = row ∷ []

abbrev pub serial_row : Serial → List Row
serial_row (serial.Yes order) = []
serial_row (serial.NoFault f) = parts_row (parts_of f)
serial_row (serial.NoCycle walk) = []

abbrev pub fault_row : Report → Option Phenomenon → List Row
fault_row report None = serial_row report.serial
fault_row report (Some p) = []

-- the rows in question, as they first come
abbrev pub rows_of : Report → Option Phenomenon → List Question → List Row
rows_of report asked questions = with_rows (fault_row report asked) questions
