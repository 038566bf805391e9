-- The text of a drawing, in SVG.
--
-- Origin: SVG 1.1.
use Rattle.std.specs.Prelude.{ℕ, ◌+◌, ◌*◌, Bool, ◌||◌, List, ◌++◌, map, flat_map, length, codes}
use Rattle.std.specs.Fmt.{decimal}
use Rattle.lab_history.specs.History.{History}
use Rattle.lab_picture.specs.Arrows.{forward_text, has_round}
use Rattle.lab_picture.specs.Columns.{columns_text, shown_columns}
use Rattle.lab_picture.specs.Growth.{extra_lines}
use Rattle.lab_picture.specs.Heading.{head_y, heading_text}
use Rattle.lab_picture.specs.declared.layout.Frame.{Frame}
use Rattle.lab_picture.specs.Layout.{width, height}
use Rattle.lab_picture.specs.Named.{drawn}
use Rattle.lab_picture.specs.Size.{size_text}
use Rattle.lab_picture.specs.Steps.{steps_text}
use Rattle.lab_drawing.specs.Sketch.{Sketch}
use Rattle.lab_picture.specs.Slots.{is_few, slotted, most_drawn}
use Rattle.lab_drawing.specs.Text.{escaped}
use Rattle.lab_picture.specs.Values.{value_lines, values_text}
use Rattle.lab_drawing.specs.declared.drawing.Arrow.{Arrow}

-- two numbers, as the end of an attribute
unfoldable pub numbers_text : ℕ → ℕ → List ℕ
numbers_text a b = decimal a ++ codes " " ++ decimal b ++ codes "\""

-- what part of the ground is shown: all of it
unfoldable pub view_text : ℕ → ℕ → List ℕ
view_text width height = codes " viewBox=\"0 0 " ++ numbers_text width height

-- what opens a picture
unfoldable pub svg_text : List ℕ
svg_text = codes "<svg xmlns=\"http://www.w3.org/2000/svg\" role=\"img\""

-- its letters
unfoldable pub letters_text : List ℕ
letters_text = codes " font-family=\"monospace\" font-size=\"11\">\n"

-- what opens a picture of this size
unfoldable pub open_text : ℕ → ℕ → List ℕ
open_text width height = svg_text ++ size_text width height ++ view_text width height ++ letters_text

-- what a reader of screens reads out: the title
unfoldable pub told_title : List ℕ → List ℕ
told_title title = codes "<title>" ++ escaped title ++ codes "</title>\n"

-- and the line of the report
unfoldable pub told_line : List ℕ → List ℕ
told_line about = codes "<desc>" ++ escaped about ++ codes "</desc>\n"

-- both
unfoldable pub told_text : List ℕ → List ℕ → List ℕ
told_text title about = told_title title ++ told_line about

-- the head of arrows
unfoldable pub marker_text : List ℕ
marker_text =
    codes "<defs><marker id=\"p-head\" viewBox=\"0 0 8 8\" refX=\"8\" refY=\"4\" markerWidth=\"9\" markerHeight=\"9\" markerUnits=\"userSpaceOnUse\" orient=\"auto\"><path d=\"M0 0L8 4L0 8z\"/></marker></defs>\n"

-- a white ground
unfoldable pub ground_text : ℕ → ℕ → List ℕ
ground_text width height = codes "<rect" ++ size_text width height ++ codes " fill=\"white\"/>\n"

-- the arrows of a drawing that are drawn, those of a yes too
abbrev pub arrows_drawn : Sketch → List Arrow
arrows_drawn d = drawn (shown_columns d.columns) (d.arrows ++ d.forward)

-- the columns that are drawn
unfoldable pub drawn_columns : History → Frame → Sketch → List ℕ
drawn_columns h frame d = columns_text h frame (arrows_drawn d) d 0 (shown_columns d.columns)

-- arrows of a drawing with the places of their ends for their numbers
abbrev pub placed : Frame → Sketch → List Arrow → List Arrow
placed frame d arrows = map (slotted frame.few (arrows_drawn d) d.marked) arrows

-- the arrows between them: those of steps, and thin those of a yes
unfoldable pub drawn_arrows : Frame → Sketch → List ℕ
drawn_arrows frame d =
    steps_text frame (shown_columns d.columns) 0 (placed frame d d.arrows)
    ++ flat_map (forward_text frame (shown_columns d.columns)) (placed frame d d.forward)

-- what a picture of this size begins with
unfoldable pub head_text : ℕ → ℕ → Sketch → List ℕ
head_text width height d = open_text width height ++ told_text d.title d.about ++ marker_text ++ ground_text width height

-- the ground line of the first line of values
abbrev pub values_y : Frame → Sketch → ℕ
values_y frame d = height frame (length (shown_columns d.columns))

-- how high a picture is: as its columns are, and its lines of values
abbrev pub whole_height : Frame → Sketch → ℕ
whole_height frame d = values_y frame d + 14 * value_lines d.rows

-- what stands below the heading: the columns, the arrows and the values
unfoldable pub body_text : History → Frame → Sketch → List ℕ
body_text h frame d = drawn_columns h frame d ++ drawn_arrows frame d ++ values_text h (values_y frame d) d.rows

-- the text of a drawing in a frame
unfoldable pub svg_with : History → Frame → Sketch → List ℕ
svg_with h frame d = head_text (width (length d.columns)) (whole_height frame d) d ++ heading_text frame.few d ++ body_text h frame d ++ codes "</svg>\n"

-- whether an arrow of a drawing goes below the boxes
abbrev pub goes_below : Sketch → Bool
goes_below d = has_round (shown_columns d.columns) d.arrows || has_round (shown_columns d.columns) d.forward

-- the frame of a drawing
abbrev pub frame_of : History → Sketch → Frame
frame_of h d = record { head = head_y (is_few h d) d; most = most_drawn h (is_few h d) (arrows_drawn d) d.marked 0 (shown_columns d.columns); round = goes_below d; extra = extra_lines h (arrows_drawn d) (shown_columns d.columns); few = is_few h d }

-- the text of a drawing of a history's transactions
abbrev pub svg_of : History → Sketch → List ℕ
svg_of h d = svg_with h (frame_of h d) d
