-- The rows that are named by the arrows of a drawn operation.
use Rattle.std.specs.Prelude.{ℕ, ◌==◌, Bool, ◌&&◌, ◌||◌, is_some, List, map, filter}
use Rattle.lab_table.specs.Row.{Row}
use Rattle.lab_drawing.specs.declared.drawing.Arrow.{Arrow}
use Rattle.lab_drawing.specs.declared.drawing.Spot.{Spot}
use Rattle.lab_picture.specs.Arrows.{column_of}

-- whether both transactions of an arrow have columns
abbrev pub has_ends : List ℕ → Arrow → Bool
has_ends columns arrow = is_some (column_of 0 arrow.from.txn columns) && is_some (column_of 0 arrow.to.txn columns)

-- the arrows that are drawn between columns of these transactions
abbrev pub drawn : List ℕ → List Arrow → List Arrow
drawn columns arrows = filter (has_ends columns) arrows

-- whether this is an operation of a transaction
abbrev pub is_at : ℕ → ℕ → Spot → Bool
is_at n k spot = (spot.txn == n) && (spot.op == k)

-- whether an arrow leads from an operation, or to it
abbrev pub touches : ℕ → ℕ → Arrow → Bool
touches n k arrow = is_at n k arrow.from || is_at n k arrow.to

-- the rows that arrows name which lead from an operation, or to it
abbrev pub rows_at : List Arrow → ℕ → ℕ → List Row
rows_at arrows n k = map (λ a. a.row) (filter (touches n k) arrows)
