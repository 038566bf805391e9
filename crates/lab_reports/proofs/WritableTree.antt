-- The values of reports and refusals have no float, and nest no deeper than JSON is read.
use Rattle.std.proofs.Common.{◌≡◌, ◌≤◌, ℕ, suc, false, Option, Some, None, List, [], ◌∷◌, refl, arith}
use Rattle.serde_json.specs.{Data.{Data, depth}, Read.{max_depth}, Written.{has_float}}
use Rattle.lab_history.specs.declared.fault.FileFault.{FileFault}
use Rattle.lab_history.specs.declared.fault.FileFault.TheVariants as fault
use Rattle.lab_history_file.specs.Tree.{natural_tree, list_tree}
use Rattle.lab_deps.specs.{FaultKinds.{parts_of}, declared.fault.FaultParts.{FaultParts}}
use Rattle.lab_deps.specs.declared.fault.FaultParts.TheVariants as parts
use Rattle.lab_judge.specs.declared.{places.{Point.{Point}, Places.{Places}}, serial.Serial.{Serial}, report.{Finding.{Finding}, Report.{Report}}}
use Rattle.lab_judge.specs.declared.places.Point.TheVariants as point
use Rattle.lab_judge.specs.declared.places.Places.TheVariants as places
use Rattle.lab_judge.specs.declared.serial.Serial.TheVariants as serial
use Rattle.lab_judge.specs.declared.report.Finding.TheVariants as finding
use Rattle.lab_reports.specs.Phenomena.{finding_of}
use Rattle.lab_reports.specs.Tree.{edge_tree, parts_tree, span_tree, point_tree, serial_tree, places_tree, finding_tree, phenomena_tree, tree_of}
use Rattle.lab_reports.specs.RefusalTree.{file_fault_tree, refused_tree}
use Rattle.lab_reports.specs.declared.phenomenon.Phenomenon.TheVariants.{G0, G1a, G1b, G1c, GSingle, G2Item, G2}

-- ---- no float

pub list_whole : {X : Type 0} (tree : X → Data) → ((x : X) → has_float (tree x) ≡ false) → (xs : List X) → has_float (list_tree tree xs) ≡ false
list_whole tree whole [] = refl
list_whole tree whole (x ∷ xs) = rw (whole x) (list_whole tree whole xs)

parts_whole : (f : FaultParts) → has_float (parts_tree f) ≡ false
parts_whole (parts.Operation kind n k row) = refl
parts_whole (parts.Row kind row) = refl

point_whole : (p : Point) → has_float (point_tree p) ≡ false
point_whole (point.Start n) = refl
point_whole (point.Commit n) = refl

serial_whole : (s : Serial) → has_float (serial_tree s) ≡ false
serial_whole (serial.Yes order) = rw (list_whole natural_tree (λ n. refl) order) refl
serial_whole (serial.NoFault f) = rw (parts_whole (parts_of f)) refl
serial_whole (serial.NoCycle walk) = rw (list_whole edge_tree (λ e. refl) walk) refl

places_whole : (p : Places) → has_float (places_tree p) ≡ false
places_whole (places.Yes spans) = rw (list_whole span_tree (λ s. refl) spans) refl
places_whole (places.NoFault f) = rw (parts_whole (parts_of f)) refl
places_whole (places.NoCycle points) = rw (list_whole point_tree point_whole points) refl

finding_whole : (f : Finding) → has_float (finding_tree f) ≡ false
finding_whole finding.Absent = refl
finding_whole (finding.Walk walk) = rw (list_whole edge_tree (λ e. refl) walk) refl
finding_whole (finding.At n k row) = refl
finding_whole finding.NotJudged = refl

phenomena_whole : (report : Report) → has_float (phenomena_tree report) ≡ false
phenomena_whole report =
    rw (
      finding_whole (finding_of G0 report),
      finding_whole (finding_of G1a report),
      finding_whole (finding_of G1b report),
      finding_whole (finding_of G1c report),
      finding_whole (finding_of GSingle report),
      finding_whole (finding_of G2Item report),
      finding_whole (finding_of G2 report),
    ) refl

pub tree_whole : (file : Option (List ℕ)) (report : Report) → has_float (tree_of file report) ≡ false
tree_whole None report = rw (phenomena_whole report, serial_whole report.serial, places_whole report.snapshot) refl
tree_whole (Some file) report = rw (phenomena_whole report, serial_whole report.serial, places_whole report.snapshot) refl

file_fault_whole : (f : FileFault) → has_float (file_fault_tree f) ≡ false
file_fault_whole fault.NoMemory = refl
file_fault_whole fault.NotJson = refl
file_fault_whole (fault.WrongFormat path) = refl
file_fault_whole (fault.WrongVersion number) = refl
file_fault_whole (fault.RepeatedTxn txn) = refl
file_fault_whole (fault.BadStatement txn op) = refl
file_fault_whole (fault.Unsorted path) = refl
file_fault_whole (fault.OverLimit which) = refl

pub refused_whole : (file : Option (List ℕ)) (f : FileFault) → has_float (refused_tree file f) ≡ false
refused_whole None f = rw (file_fault_whole f) refl
refused_whole (Some file) f = rw (file_fault_whole f) refl

-- ---- five levels

pub list_flat : {X : Type 0} (n : ℕ) (tree : X → Data) → ((x : X) → depth (tree x) ≤ n) → (xs : List X) → depth (list_tree tree xs) ≤ suc n
list_flat n tree flat [] = omega arith
list_flat n tree flat (x ∷ xs) = omega (arith, flat x, list_flat n tree flat xs)

parts_flat : (f : FaultParts) → depth (parts_tree f) ≤ 1
parts_flat (parts.Operation kind n k row) = omega arith
parts_flat (parts.Row kind row) = omega arith

point_flat : (p : Point) → depth (point_tree p) ≤ 1
point_flat (point.Start n) = omega arith
point_flat (point.Commit n) = omega arith

serial_flat : (s : Serial) → depth (serial_tree s) ≤ 3
serial_flat (serial.Yes order) = omega (arith, list_flat 0 natural_tree (λ n. omega arith) order)
serial_flat (serial.NoFault f) = omega (arith, parts_flat (parts_of f))
serial_flat (serial.NoCycle walk) = omega (arith, list_flat 1 edge_tree (λ e. omega arith) walk)

places_flat : (p : Places) → depth (places_tree p) ≤ 3
places_flat (places.Yes spans) = omega (arith, list_flat 1 span_tree (λ s. omega arith) spans)
places_flat (places.NoFault f) = omega (arith, parts_flat (parts_of f))
places_flat (places.NoCycle points) = omega (arith, list_flat 1 point_tree point_flat points)

finding_flat : (f : Finding) → depth (finding_tree f) ≤ 3
finding_flat finding.Absent = omega arith
finding_flat (finding.Walk walk) = omega (arith, list_flat 1 edge_tree (λ e. omega arith) walk)
finding_flat (finding.At n k row) = omega arith
finding_flat finding.NotJudged = omega arith

phenomena_flat : (report : Report) → depth (phenomena_tree report) ≤ 4
phenomena_flat report =
    omega (
      arith,
      finding_flat (finding_of G0 report),
      finding_flat (finding_of G1a report),
      finding_flat (finding_of G1b report),
      finding_flat (finding_of G1c report),
      finding_flat (finding_of GSingle report),
      finding_flat (finding_of G2Item report),
      finding_flat (finding_of G2 report),
    )

pub tree_flat : (file : Option (List ℕ)) (report : Report) → depth (tree_of file report) ≤ max_depth
tree_flat None report = omega (arith, phenomena_flat report, serial_flat report.serial, places_flat report.snapshot)
tree_flat (Some file) report = omega (arith, phenomena_flat report, serial_flat report.serial, places_flat report.snapshot)

file_fault_flat : (f : FileFault) → depth (file_fault_tree f) ≤ 1
file_fault_flat fault.NoMemory = omega arith
file_fault_flat fault.NotJson = omega arith
file_fault_flat (fault.WrongFormat path) = omega arith
file_fault_flat (fault.WrongVersion number) = omega arith
file_fault_flat (fault.RepeatedTxn txn) = omega arith
file_fault_flat (fault.BadStatement txn op) = omega arith
file_fault_flat (fault.Unsorted path) = omega arith
file_fault_flat (fault.OverLimit which) = omega arith

pub refused_flat : (file : Option (List ℕ)) (f : FileFault) → depth (refused_tree file f) ≤ max_depth
refused_flat None f = omega (arith, file_fault_flat f)
refused_flat (Some file) f = omega (arith, file_fault_flat f)
