-- The positions at which the ends of arrows are drawn, and when only a few operations of a long column are drawn.
use Rattle.std.specs.Prelude.{ℕ, max, nat_lt, Bool, cond, Option, List, [], ◌∷◌, length, codes}
use Rattle.lab_history.specs.History.{History}
use Rattle.lab_history.specs.Version.{ops_of}
use Rattle.lab_picture.specs.Columns.{marked_in, most_ops, shown_columns}
use Rattle.lab_picture.specs.Few.{slot_of}
use Rattle.lab_drawing.specs.Sketch.{Sketch}
use Rattle.lab_drawing.specs.declared.drawing.Arrow.{Arrow}
use Rattle.lab_drawing.specs.declared.drawing.Spot.{Spot}

-- whether few operations are drawn: where a column that is drawn has more than twenty-four
abbrev pub is_few : History → Sketch → Bool
is_few h d = nat_lt 24 (most_ops h (shown_columns d.columns))

-- what is said of that
abbrev pub few_note : Bool → List ℕ
few_note few = cond few (codes "the first 8 statements of each transaction are drawn, and those in question") []

-- a transaction's operation by its place
abbrev pub spot_slot : Bool → List Arrow → Option Spot → Spot → Spot
spot_slot few arrows marked spot = record { txn = spot.txn; op = slot_of few arrows spot.txn (marked_in marked spot.txn) spot.op }

-- an arrow with the places of its ends for their numbers
abbrev pub slotted : Bool → List Arrow → Option Spot → Arrow → Arrow
slotted few arrows marked a = record { from = spot_slot few arrows marked a.from; to = spot_slot few arrows marked a.to; tie = a.tie; row = a.row }

-- how many operations of a transaction are drawn
abbrev pub drawn_of : History → Bool → List Arrow → Option Spot → ℕ → ℕ
drawn_of h few arrows marked n = slot_of few arrows n (marked_in marked n) (length (ops_of h n))

-- how many are drawn of the longest of some transactions, and no fewer than given
abbrev pub most_drawn : History → Bool → List Arrow → Option Spot → ℕ → List ℕ → ℕ
most_drawn h few arrows marked most [] = most
most_drawn h few arrows marked most (n ∷ ns) = most_drawn h few arrows marked (max most (drawn_of h few arrows marked n)) ns
