-- A row that an arrow names is in the boxes at both ends of the arrow.
use Rattle.std.specs.Prelude.{◌≡◌, ℕ, false, List, Contains}
use Rattle.lab_table.specs.Row.{Row}
use Rattle.lab_history.specs.History.{History}
use Rattle.lab_history.specs.Version.{IsOp}
use Rattle.lab_history.specs.declared.operation.Op.{Op}
use Rattle.lab_picture.specs.Boxes.{Telling, telling}
use Rattle.lab_picture.specs.Kept.{told_rows}
use Rattle.lab_picture.specs.Lines.{all_lines}
use Rattle.lab_picture.specs.Named.{rows_at}
use Rattle.lab_picture.specs.TextLaws.{Have}
use Rattle.lab_drawing.specs.declared.drawing.Arrow.{Arrow}
use Rattle.lab_drawing.specs.declared.drawing.Spot.{Spot}

-- what a box tells of what an operation did isn't cut, and its lines have a text whole
abbrev pub BoxHas : Telling → List ℕ → Type 0
BoxHas told text = (told.is_cut ≡ false) × Have (all_lines 28 told.shown) text

-- where the arrows are these, the box at an end has what is told of a row
abbrev pub HasRow : History → List Arrow → Row → Spot → Type 0
HasRow h arrows row end = (op : Op) (text : List ℕ) → IsOp h end.txn end.op op → Contains (told_rows op) (row, text)
    → BoxHas (telling (rows_at arrows end.txn end.op) op) text
