-- What is drawn for a verdict or a finding: columns, arrows, a marked operation, a line, a note, a title, narrow
-- columns, and the rows whose values are shown.
use Rattle.std.specs.Prelude.{ℕ, ◌==◌, Bool, true, false, not, cond, Option, Some, None, option_map, is_some, List, [], ◌∷◌, ◌++◌, map, filter, flat_map, codes}
use Rattle.std.specs.List.{list_any}
use Rattle.std.specs.Fmt.{decimal}
use Rattle.lab_table.specs.Row.{Row}
use Rattle.lab_history.specs.History.{History}
use Rattle.lab_history.specs.Version.{ops_of, op_at, viewed, version_state, last_write, installers}
use Rattle.lab_history.specs.declared.operation.VersionName.{VersionName}
use Rattle.lab_history.specs.declared.operation.VersionName.TheVariants.{Initial, Of}
use Rattle.lab_deps.specs.declared.edge.Edge.{Edge}
use Rattle.lab_deps.specs.FaultKinds.{parts_of}
use Rattle.lab_deps.specs.declared.fault.FaultParts.{FaultParts}
use Rattle.lab_deps.specs.declared.fault.FaultParts.TheVariants as parts
use Rattle.lab_deps.specs.declared.fault.LocalFault.{LocalFault}
use Rattle.lab_deps.specs.declared.kind.RowFault.TheVariants.{InstallOrder, EndDiffers}
use Rattle.lab_judge.specs.ReportText.{line_text, serial_text, finding_text}
use Rattle.lab_judge.specs.declared.report.Finding.{Finding}
use Rattle.lab_judge.specs.declared.report.Finding.TheVariants as finding
use Rattle.lab_judge.specs.declared.report.Report.{Report}
use Rattle.lab_judge.specs.declared.serial.Serial.{Serial}
use Rattle.lab_judge.specs.declared.serial.Serial.TheVariants as serial
use Rattle.lab_drawing.specs.declared.drawing.Spot.{Spot}
use Rattle.lab_drawing.specs.declared.drawing.Arrow.{Arrow}
use Rattle.lab_drawing.specs.declared.drawing.Tie.TheVariants.{Version}
use Rattle.lab_reports.specs.declared.phenomenon.Phenomenon.{Phenomenon}
use Rattle.lab_drawing.specs.declared.installs.Misplaced.{Misplaced}
use Rattle.lab_reports.specs.Phenomena.{phenomenon_name, finding_of}
use Rattle.lab_drawing.specs.Installs.{misplaced_of, misplaced_text}
use Rattle.lab_drawing.specs.Making.{arrows_of, listed}
use Rattle.lab_drawing.specs.Ties.{is_dashed}
use Rattle.lab_drawing.specs.Rows.{rows_of}
use Rattle.lab_drawing.specs.Titles.{serial_title, finding_title}

-- a drawing: transactions from left to right with all their operations, arrows between operations, the operation that a fault is at or about, the line of the report that is drawn, a note, a title in words, the arrows of a yes, the transactions whose columns are thin, and the rows whose values stand below
pub record Sketch : Type 0 where
  pub columns : List ℕ
  pub arrows : List Arrow
  pub marked : Option Spot
  pub about : List ℕ
  pub note : List ℕ
  pub title : List ℕ
  pub forward : List Arrow
  pub thin : List ℕ
  pub rows : List Row

-- columns with one for this transaction
abbrev pub with_column : List ℕ → ℕ → List ℕ
with_column ns n = cond (list_any (λ m. m == n) ns) ns (ns ++ n ∷ [])

-- columns with one for each of these transactions, in the order in which they first come
abbrev pub with_columns : List ℕ → List ℕ → List ℕ
with_columns columns [] = columns
with_columns columns (n ∷ ns) = with_columns (with_column columns n) ns

-- no transaction is drawn
abbrev pub blank : List ℕ → Sketch
blank about = record { columns = []; arrows = []; marked = None; about = about; note = []; title = []; forward = []; thin = []; rows = [] }

-- an order: its transactions, from left to right
abbrev pub of_order : List ℕ → List ℕ → Sketch
of_order about order = record { columns = order; arrows = []; marked = None; about = about; note = []; title = []; forward = []; thin = []; rows = [] }

-- the version of a row that an operation of a transaction sees
abbrev pub seen_at : History → ℕ → ℕ → Row → Option VersionName
seen_at h n k row = option_map (λ op. viewed op row) (op_at (ops_of h n) k)

-- the operation that a version names, where it wrote one
abbrev pub spot_of : ℕ → ℕ → Bool → Option Spot
spot_of m j false = None
spot_of m j true = Some (record { txn = m; op = j })

-- the operation that wrote a version of a row, where it did
abbrev pub written_by : History → Row → VersionName → Option Spot
written_by h row Initial = None
written_by h row (Of m j) = spot_of m j (is_some (version_state h row (Of m j)))

-- the operation that wrote the version that is seen, where there is one
abbrev pub writer_at : History → Row → Option VersionName → Option Spot
writer_at h row None = None
writer_at h row (Some version) = written_by h row version

-- the transaction that wrote the version which the first operation of an anti-dependency's arrow sees, where that is none but the initial one
abbrev pub seen_writer : History → Arrow → Option ℕ
seen_writer h a = option_map (λ spot. spot.txn) (writer_at h a.row (seen_at h a.from.txn a.from.op a.row))

-- the same as a list; of another arrow none
abbrev pub seen_writers : History → Arrow → List ℕ
seen_writers h a = cond (is_dashed a.tie) (listed (seen_writer h a)) []

-- those that aren't among these, each once
abbrev pub others : List ℕ → List ℕ → List ℕ
others columns ns = with_columns [] (filter (λ n. not (list_any (λ m. m == n) columns)) ns)

-- a walk with these columns and arrows: behind the columns thin ones, and below them the values of its rows
abbrev pub walk_with : History → List ℕ → List ℕ → List Arrow → List Edge → Sketch
walk_with h about columns arrows walk = record {
  columns = columns ++ others columns (flat_map (seen_writers h) arrows);
  arrows = arrows;
  marked = None;
  about = about;
  note = [];
  title = [];
  forward = [];
  thin = others columns (flat_map (seen_writers h) arrows);
  rows = rows_of h walk;
}

-- a walk: its transactions in their order, and an arrow for each dependency
abbrev pub of_walk : History → List ℕ → List Edge → Sketch
of_walk h about walk = walk_with h about (with_columns [] (map (λ e. e.from) walk)) (flat_map (arrows_of h) walk) walk

-- the name of an operation
abbrev pub spot_text : ℕ → ℕ → List ℕ
spot_text n k = codes "T" ++ decimal n ++ codes " op " ++ decimal k

-- which version it is, and whether it is there
abbrev pub version_text : VersionName → Bool → List ℕ
version_text Initial written = codes "version seen: initial"
version_text (Of m j) written = codes "version seen: " ++ spot_text m j ++ cond written [] (codes ", which isn't there")

-- which version is seen, if one is
abbrev pub version_note : Option VersionName → Bool → List ℕ
version_note None written = []
version_note (Some version) written = version_text version written

-- the columns of a place: that of the operation that wrote the version, and that of the place
abbrev pub place_columns : Option Spot → ℕ → List ℕ
place_columns None n = n ∷ []
place_columns (Some writer) n = with_column (writer.txn ∷ []) n

-- the arrow from the operation that wrote the version to the one that sees it
abbrev pub place_arrows : Option Spot → Spot → Row → List Arrow
place_arrows None place row = []
place_arrows (Some writer) place row = record { from = writer; to = place; tie = Version; row = row } ∷ []

-- an operation, a row and the version of it that the operation sees
abbrev pub of_place : History → List ℕ → ℕ → ℕ → Row → Sketch
of_place h about n k row = record {
  columns = place_columns (writer_at h row (seen_at h n k row)) n;
  arrows = place_arrows (writer_at h row (seen_at h n k row)) (record { txn = n; op = k }) row;
  marked = Some (record { txn = n; op = k });
  about = about;
  note = version_note (seen_at h n k row) (is_some (writer_at h row (seen_at h n k row)));
  title = [];
  forward = [];
  thin = [];
  rows = [];
}

-- the columns of a row: the transactions that installed it
abbrev pub installer_columns : History → Row → List ℕ
installer_columns h row = with_columns [] (installers h row)

-- a row: the transactions that installed it
abbrev pub of_row : History → List ℕ → Row → Sketch
of_row h about row = record { columns = installer_columns h row; arrows = []; marked = None; about = about; note = []; title = []; forward = []; thin = []; rows = [] }

-- a transaction's last write of a row, where it wrote the row
abbrev pub last_spot : History → Row → ℕ → Option Spot
last_spot h row n = option_map (λ k. record { txn = n; op = k }) (last_write (ops_of h n) row)

-- a row and a transaction that is out of place among its installers: those and that one, whose last write of the row is marked
abbrev pub of_misplaced : History → List ℕ → Row → Misplaced → Sketch
of_misplaced h about row found = record {
  columns = with_column (installer_columns h row) found.txn;
  arrows = [];
  marked = last_spot h row found.txn;
  about = about;
  note = misplaced_text found;
  title = [];
  forward = [];
  thin = [];
  rows = [];
}

-- a row whose installers aren't its committed writers
abbrev pub of_installs : History → List ℕ → Row → Option Misplaced → Sketch
of_installs h about row None = of_row h about row
of_installs h about row (Some found) = of_misplaced h about row found

-- a fault at an operation: its place; one at a row alone: the row
abbrev pub of_parts : History → List ℕ → FaultParts → Sketch
of_parts h about (parts.Operation kind n k row) = of_place h about n k row
of_parts h about (parts.Row InstallOrder row) = of_installs h about row (misplaced_of h row)
of_parts h about (parts.Row EndDiffers row) = of_row h about row

abbrev pub of_fault : History → List ℕ → LocalFault → Sketch
of_fault h about f = of_parts h about (parts_of f)

-- a serial verdict, with this line
abbrev pub of_verdict : History → List ℕ → Serial → Sketch
of_verdict h about (serial.Yes order) = of_order about order
of_verdict h about (serial.NoFault f) = of_fault h about f
of_verdict h about (serial.NoCycle walk) = of_walk h about walk

-- a serial verdict
abbrev pub of_serial : History → Serial → Sketch
of_serial h verdict = of_verdict h (line_text (codes "serializable") (serial_text verdict)) verdict

-- what is found of a phenomenon, with this line
abbrev pub of_found : History → List ℕ → Finding → Sketch
of_found h about finding.Absent = blank about
of_found h about finding.NotJudged = blank about
of_found h about (finding.Walk walk) = of_walk h about walk
of_found h about (finding.At n k row) = of_place h about n k row

-- what is found of a phenomenon of this name
abbrev pub of_finding : History → List ℕ → Finding → Sketch
of_finding h name found = of_found h (line_text name (finding_text found)) found

-- a drawing with this title
abbrev pub entitled : List ℕ → Sketch → Sketch
entitled title d = record { columns = d.columns; arrows = d.arrows; marked = d.marked; about = d.about; note = d.note; title = title; forward = d.forward; thin = d.thin; rows = d.rows }

-- the drawing of a report: its serial verdict, or what it finds of a phenomenon
abbrev pub drawing_of : History → Report → Option Phenomenon → Sketch
drawing_of h report None = entitled (serial_title h report.serial) (of_serial h report.serial)
drawing_of h report (Some phenomenon) = entitled (finding_title h phenomenon (finding_of phenomenon report)) (of_finding h (phenomenon_name phenomenon) (finding_of phenomenon report))
