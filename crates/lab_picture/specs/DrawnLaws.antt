-- Which operations are drawn, how many at most, and how high a picture is at most.
use Rattle.std.specs.Prelude.{◌≡◌, ◌≤◌, ℕ, ◌+◌, ◌*◌, max, true, length}
use Rattle.lab_history.specs.History.{History}
use Rattle.lab_picture.specs.Columns.{marked_in}
use Rattle.lab_picture.specs.Few.{is_kept}
use Rattle.lab_picture.specs.Layout.{distance}
use Rattle.lab_drawing.specs.Sketch.{Sketch}
use Rattle.lab_picture.specs.Slots.{is_few, drawn_of}
use Rattle.lab_picture.specs.Svg.{arrows_drawn, frame_of, whole_height}
use Rattle.lab_drawing.specs.declared.drawing.Spot.{Spot}

-- in the column of its transaction an operation is drawn, if it has one
abbrev pub IsDrawnAt : History → Sketch → Spot → Type 0
IsDrawnAt h d spot = is_kept (is_few h d) (arrows_drawn d) spot.txn (marked_in d.marked spot.txn) spot.op ≡ true

-- how many operations of a column are drawn at most: twenty-four, or nine and two for each arrow that is drawn
abbrev pub limit : Sketch → ℕ
limit d = max 24 (9 + 2 * length (arrows_drawn d))

-- no more of a transaction are drawn
abbrev pub DrawsFew : History → Sketch → ℕ → Type 0
DrawsFew h d n = drawn_of h (is_few h d) (arrows_drawn d) d.marked n ≤ limit d

-- and a picture is no higher than so many boxes are in each of fourteen bands, with what stands above and below them
abbrev pub IsLow : History → Sketch → Type 0
IsLow h d = whole_height (frame_of h d) d ≤ 850 + 14 * (60 + distance (frame_of h d) * limit d)
