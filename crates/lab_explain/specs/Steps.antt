-- The sentences on a path of dependencies: one for each, in order.
use Rattle.std.specs.Prelude.{ℕ, Option, Some, None, List, [], ◌++◌, map, codes}
use Rattle.lab_table.specs.Row.{Row}
use Rattle.lab_printing.specs.Printed.{printed_row_name}
use Rattle.lab_history.specs.History.{History}
use Rattle.lab_deps.specs.declared.edge.Edge.{Edge}
use Rattle.lab_deps.specs.declared.edge.Kind.{Kind}
use Rattle.lab_deps.specs.declared.edge.Kind.TheVariants.{Write, ItemRead, PredicateRead, ItemAnti, PredicateAnti}
use Rattle.lab_judge.specs.ReportText.{kind_name}
use Rattle.lab_drawing.specs.Making.{arrow_of}
use Rattle.lab_drawing.specs.declared.drawing.Arrow.{Arrow}
use Rattle.lab_drawing.specs.declared.drawing.Spot.{Spot}
use Rattle.lab_explain.specs.Lines.{step, joined}
use Rattle.lab_explain.specs.Clauses.{txn_name, op_text, seen_by, left_by, saw_text, left_text}

-- what the operation that a dependency leads from did: it saw the row, or left it
abbrev pub from_text : History → Kind → Spot → Row → List ℕ
from_text h Write spot row = left_text h spot.txn spot.op row
from_text h ItemRead spot row = left_text h spot.txn spot.op row
from_text h PredicateRead spot row = left_text h spot.txn spot.op row
from_text h ItemAnti spot row = saw_text h spot.txn spot.op row
from_text h PredicateAnti spot row = saw_text h spot.txn spot.op row

-- an operation that left it, and how
unfoldable pub left_next : History → Spot → Row → List ℕ → List ℕ
left_next h spot row which = codes ", and " ++ op_text h spot.txn spot.op ++ codes " left it" ++ left_by h spot.txn spot.op row ++ which

-- an operation that saw it, and how
unfoldable pub saw_next : List ℕ → History → Spot → Row → List ℕ → List ℕ
saw_next lead h spot row words = lead ++ op_text h spot.txn spot.op ++ words ++ seen_by h spot.txn spot.op row

-- what the operation that it leads to did with the row
abbrev pub to_text : History → Kind → Spot → Row → List ℕ
to_text h Write spot row = left_next h spot row (codes ", its next version")
to_text h ItemRead spot row = saw_next (codes ", and ") h spot row (codes " saw it")
to_text h PredicateRead spot row = saw_next (codes ", which changed whether it matches ") h spot row (codes "; that one saw it")
to_text h ItemAnti spot row = left_next h spot row (codes ", its next version")
to_text h PredicateAnti spot row = left_next h spot row (codes ", a later version, which changed whether it matches")

-- a dependency as the report prints it
unfoldable pub tag_text : Edge → List ℕ
tag_text e = codes " [" ++ kind_name e.kind ++ codes "(" ++ printed_row_name e.row ++ codes ")]"

-- who comes before whom
unfoldable pub order_text : Edge → List ℕ
order_text e = txn_name e.from ++ codes " comes before " ++ txn_name e.to ++ codes ": "

-- the sentence of a dependency, by the operations that make it
unfoldable pub edge_text : History → Edge → Arrow → List ℕ
edge_text h e a = order_text e ++ from_text h e.kind a.from e.row ++ to_text h e.kind a.to e.row ++ codes "." ++ tag_text e

-- its lines, where there are such operations
abbrev pub told_edge : History → Edge → Option Arrow → List ℕ
told_edge h e None = []
told_edge h e (Some a) = step (edge_text h e a)

-- the lines of a dependency, by the operations between which the picture has its arrow
abbrev pub edge_step : History → Edge → List ℕ
edge_step h e = told_edge h e (arrow_of h e)

-- the sentences of a walk in lines: those of its dependencies, in order
abbrev pub walk_sentences : History → List Edge → List (List ℕ)
walk_sentences h walk = map (edge_step h) walk

-- the lines of a walk
abbrev pub walk_steps : History → List Edge → List ℕ
walk_steps h walk = joined (walk_sentences h walk)
