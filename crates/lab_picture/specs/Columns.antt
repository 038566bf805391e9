-- The text of a picture's columns.
--
-- Origin: SVG 1.1.
use Rattle.std.specs.Prelude.{ℕ, ◌+◌, ◌==◌, min, max, Bool, cond, Option, Some, None, List, [], ◌∷◌, ◌++◌, length, take, codes}
use Rattle.std.specs.Fmt.{decimal}
use Rattle.std.specs.List.{list_any}
use Rattle.lab_history.specs.History.{History}
use Rattle.lab_history.specs.Version.{ops_of, outcome_of}
use Rattle.lab_drawing.specs.declared.drawing.Arrow.{Arrow}
use Rattle.lab_drawing.specs.declared.drawing.Spot.{Spot}
use Rattle.lab_picture.specs.declared.layout.Column.{Column}
use Rattle.lab_picture.specs.declared.layout.Frame.{Frame}
use Rattle.lab_picture.specs.Layout.{left, top}
use Rattle.lab_drawing.specs.Sketch.{Sketch}
use Rattle.lab_drawing.specs.Text.{outcome_name}
use Rattle.lab_picture.specs.Text.{text_at}
use Rattle.lab_picture.specs.Boxes.{boxes_text}

-- how many operations the longest of some transactions has, and no fewer than given
abbrev pub most_from : History → ℕ → List ℕ → ℕ
most_from h most [] = most
most_from h most (n ∷ ns) = most_from h (max most (length (ops_of h n))) ns

-- how many operations the longest of some transactions has
abbrev pub most_ops : History → List ℕ → ℕ
most_ops h ns = most_from h 0 ns

-- the transactions that are drawn: no more than forty
abbrev pub shown_columns : List ℕ → List ℕ
shown_columns columns = take (min (length columns) 40) columns

-- what stands above a column
abbrev pub title_of : History → ℕ → List ℕ
title_of h n = codes "T" ++ decimal n ++ codes " " ++ outcome_name (outcome_of h n)

-- the letters of what stands above a column
abbrev pub title_weight : Bool → List ℕ
title_weight thin = cond thin [] (codes " font-weight=\"bold\"")

-- the line above a column
unfoldable pub title_text : History → ℕ → ℕ → Bool → ℕ → List ℕ
title_text h x y thin n = text_at (title_weight thin) x y (title_of h n)

-- the number of the marked operation, if it is of this transaction, else 0
abbrev pub marked_in : Option Spot → ℕ → ℕ
marked_in None n = 0
marked_in (Some spot) n = cond (spot.txn == n) spot.op 0

-- whether a transaction is among those whose columns are thin
abbrev pub is_thin : List ℕ → ℕ → Bool
is_thin thin n = list_any (λ m. m == n) thin

-- the column of a transaction at a place
abbrev pub column_at : Option Spot → List ℕ → ℕ → ℕ → Column
column_at marked thin place n = record { place = place; txn = n; marked = marked_in marked n; thin = is_thin thin n }

-- a column: the transaction and its operations
abbrev pub column_text : History → Frame → List Arrow → List Arrow → Column → List ℕ
column_text h frame arrows steps column =
    title_text h (left column.place) (top frame column.place) column.thin column.txn ++ boxes_text frame arrows steps column 0 (ops_of h column.txn)

-- columns of a drawing, where so many come before these and these arrows are drawn
abbrev pub columns_text : History → Frame → List Arrow → Sketch → ℕ → List ℕ → List ℕ
columns_text h frame arrows d before [] = []
columns_text h frame arrows d before (n ∷ ns) =
    column_text h frame arrows d.arrows (column_at d.marked d.thin before n) ++ columns_text h frame arrows d (before + 1) ns
