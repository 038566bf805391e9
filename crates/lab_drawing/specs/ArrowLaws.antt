-- The operations between which the arrow of a dependency leads, as relations.
use Rattle.std.specs.Prelude.{◌≡◌, ℕ, suc, ◌<◌, ◌≤◌, true, Option, Some, None, List, Contains}
use Rattle.lab_table.specs.Row.{Row}
use Rattle.lab_history.specs.History.{History}
use Rattle.lab_history.specs.Version.{IsOp, IsLastWrite, ops_of, viewed}
use Rattle.lab_history.specs.declared.operation.Op.{Op}
use Rattle.lab_deps.specs.Edges.{place_of, changes, InstallsAt, Lists}
use Rattle.lab_deps.specs.declared.edge.Edge.{Edge}
use Rattle.lab_deps.specs.declared.edge.Kind.{Kind}
use Rattle.lab_deps.specs.declared.edge.Kind.TheVariants.{Write, ItemRead, PredicateRead, ItemAnti, PredicateAnti}
use Rattle.lab_judge.specs.declared.report.Finding.TheVariants.{Walk}
use Rattle.lab_judge.specs.declared.report.Report.{Report}
use Rattle.lab_judge.specs.declared.serial.Serial.TheVariants.{NoCycle}
use Rattle.lab_reports.specs.Phenomena.{finding_of}
use Rattle.lab_drawing.specs.Sketch.{Sketch}
use Rattle.lab_reports.specs.declared.phenomenon.Phenomenon.{Phenomenon}
use Rattle.lab_drawing.specs.declared.drawing.Arrow.{Arrow}
use Rattle.lab_drawing.specs.declared.drawing.Tie.TheVariants.{Dependency}

-- an operation of a transaction, with this number, sees the version at a place of a row's versions, which isn't its own
abbrev pub SeesAt : History → ℕ → ℕ → Op → Row → ℕ → Type 0
SeesAt h n k op row v = IsOp h n k op × (place_of h n row (viewed op row) ≡ Some v)

-- the reader's operation with this number makes one transaction depend on another in this way, at a row; two writes have no reader
abbrev pub MakesAt : History → Kind → Row → ℕ → ℕ → ℕ → Type 0
MakesAt h Write row from to k = ⊥
MakesAt h ItemRead row from to k = (op : Op) × (p : ℕ) × SeesAt h to k op row (suc p) × Lists op row × InstallsAt h row p from
MakesAt h PredicateRead row from to k = (op : Op) × (v p : ℕ) × SeesAt h to k op row v × (p < v) × InstallsAt h row p from × (changes h op.statement row p ≡ true)
MakesAt h ItemAnti row from to k = (op : Op) × (v : ℕ) × SeesAt h from k op row v × Lists op row × InstallsAt h row v to
MakesAt h PredicateAnti row from to k = (op : Op) × (v p : ℕ) × SeesAt h from k op row v × (v ≤ p) × InstallsAt h row p to × (changes h op.statement row p ≡ true)

-- it is the first that does
abbrev pub MakesFirst : History → Edge → ℕ → Type 0
MakesFirst h e k = MakesAt h e.kind e.row e.from e.to k × ((other : ℕ) → MakesAt h e.kind e.row e.from e.to other → k ≤ other)

-- the operation is a transaction's last that writes the row
abbrev pub WritesLast : History → ℕ → Row → ℕ → Type 0
WritesLast h n row k = IsLastWrite (ops_of h n) row k

-- a dependency of this kind leads from one operation to another: the writer's is its last write of the row, the reader's the first that makes the dependency
abbrev pub LeadsBetween : History → Edge → Kind → ℕ → ℕ → Type 0
LeadsBetween h e Write from to = WritesLast h e.from e.row from × WritesLast h e.to e.row to
LeadsBetween h e ItemRead from to = WritesLast h e.from e.row from × MakesFirst h e to
LeadsBetween h e PredicateRead from to = WritesLast h e.from e.row from × MakesFirst h e to
LeadsBetween h e ItemAnti from to = MakesFirst h e from × WritesLast h e.to e.row to
LeadsBetween h e PredicateAnti from to = MakesFirst h e from × WritesLast h e.to e.row to

-- the arrow is that of the dependency, between the operations that make it
pub record IsArrowOf (h : History) (e : Edge) (a : Arrow) : Type 0 where
  pub from_is : a.from.txn ≡ e.from
  pub to_is : a.to.txn ≡ e.to
  pub tie_is : a.tie ≡ Dependency e.kind
  pub row_is : a.row ≡ e.row
  pub leads : LeadsBetween h e e.kind a.from.op a.to.op

-- the walk that a report names in its serial verdict, or in what it finds of a phenomenon
abbrev pub NamesWalk : Report → Option Phenomenon → List Edge → Type 0
NamesWalk report None walk = report.serial ≡ NoCycle walk
NamesWalk report (Some phenomenon) walk = finding_of phenomenon report ≡ Walk walk

-- a drawing has the arrow of the dependency
abbrev pub DrawsArrow : History → Sketch → Edge → Type 0
DrawsArrow h d e = (a : Arrow) × Contains d.arrows a × IsArrowOf h e a

-- and it leads from the last write of one transaction to that of another
abbrev pub DrawsWrites : History → Sketch → Edge → Type 0
DrawsWrites h d e = (a : Arrow) × Contains d.arrows a × IsArrowOf h e a × WritesLast h e.from e.row a.from.op × WritesLast h e.to e.row a.to.op
