-- The text of the boxes of operations.
--
-- Origin: SVG 1.1.
use Rattle.std.specs.Prelude.{ℕ, ◌+◌, ◌*◌, ◌==◌, nat_le, Bool, not, ◌||◌, cond, List, [], ◌∷◌, ◌++◌, length, codes}
use Rattle.lab_printing.specs.Printed.{printed_statement}
use Rattle.lab_table.specs.Row.{Row}
use Rattle.lab_history.specs.declared.operation.Op.{Op}
use Rattle.lab_drawing.specs.declared.drawing.Arrow.{Arrow}
use Rattle.lab_picture.specs.declared.layout.Column.{Column}
use Rattle.lab_picture.specs.declared.layout.Frame.{Frame}
use Rattle.lab_picture.specs.declared.layout.Stroke.{Stroke}
use Rattle.lab_picture.specs.declared.layout.Stroke.TheVariants.{Plain, Thick, Thin}
use Rattle.lab_picture.specs.Classes.{box_class}
use Rattle.lab_picture.specs.Effect.{effect_text}
use Rattle.lab_picture.specs.Few.{is_kept, slot_of}
use Rattle.lab_picture.specs.Kept.{tells_named, kept_text}
use Rattle.lab_picture.specs.Layout.{left, upper, box_height}
use Rattle.lab_picture.specs.Lines.{all_lines, lines_at}
use Rattle.lab_picture.specs.Named.{rows_at}
use Rattle.lab_picture.specs.Size.{size_text}
use Rattle.lab_drawing.specs.Text.{escaped}
use Rattle.lab_picture.specs.Text.{place_text, one_line, two_lines, three_lines, in_three, in_four}

-- what a box tells: the statement, what it did, whether that is cut where there is no more room, and else what stands of it
pub record Telling : Type 0 where
  pub statement : List ℕ
  pub effect : List ℕ
  pub is_cut : Bool
  pub shown : List ℕ

-- whether a statement and what it did have four lines at most
abbrev pub fits : List ℕ → List ℕ → Bool
fits statement effect = nat_le (in_three 28 statement + in_four 28 effect) 4

-- what stands of what an operation did: all of it where it fits, else the rows that are named; nothing is said where none is
abbrev pub shown_effect : List Row → Op → List ℕ
shown_effect named op =
    cond (fits (printed_statement op.statement) (effect_text op)) (effect_text op) (cond (tells_named named op) (kept_text named op) [])

-- what a box tells of an operation where these rows are named
abbrev pub telling : List Row → Op → Telling
telling named op = record {
  statement = printed_statement op.statement;
  effect = effect_text op;
  is_cut = not (fits (printed_statement op.statement) (effect_text op) || tells_named named op);
  shown = shown_effect named op;
}

-- how many lines that has, where no more are shown than there is room for
abbrev pub lines_of : Telling → ℕ
lines_of told = cond told.is_cut 4 (in_three 28 told.statement + length (all_lines 28 told.shown))

-- how many lines a box needs; where no row is named, no more than four
unfoldable pub box_lines : List Row → Op → ℕ
box_lines named op = cond (length named == 0) 4 (lines_of (telling named op))

-- a whole statement and what it did, as a title
abbrev pub whole_text : List ℕ → List ℕ → List ℕ
whole_text statement effect = codes "<g><title>" ++ escaped statement ++ codes " " ++ escaped effect ++ codes "</title>\n"

-- the edge of a box
unfoldable pub stroke_text : Stroke → List ℕ
stroke_text Plain = codes " fill=\"white\" stroke=\"black\"/>\n"
stroke_text Thick = codes " fill=\"white\" stroke=\"black\" stroke-width=\"4\"/>\n"
stroke_text Thin = codes " fill=\"white\" stroke=\"black\" stroke-width=\"0.5\"/>\n"

-- a box's size and edge
unfoldable pub edge_style : ℕ → Stroke → List ℕ
edge_style height stroke = size_text 196 height ++ stroke_text stroke

-- a box at a place, with a class
unfoldable pub edge_text : ℕ → ℕ → ℕ → Stroke → List ℕ → List ℕ
edge_text x y height stroke class = codes "<rect" ++ class ++ place_text x y ++ edge_style height stroke

-- what a statement did in the lines that its text, of so many, leaves of four
unfoldable pub rest_lines : ℕ → ℕ → ℕ → List ℕ → List ℕ
rest_lines x y used effect = cond (used == 1) (three_lines [] x y 13 28 effect) (cond (used == 2) (two_lines [] x y 13 28 effect) (one_line [] x y 28 effect))

-- what a statement did, below it
unfoldable pub effect_lines : ℕ → ℕ → Telling → List ℕ
effect_lines x y told = cond told.is_cut (rest_lines x y (in_three 28 told.statement) told.effect) (lines_at x y (all_lines 28 told.shown))

-- an operation's text in its box: the statement in up to three lines of 28 bytes, and below it what it did
unfoldable pub inner_text : ℕ → ℕ → Telling → List ℕ
inner_text x y told = three_lines [] x y 13 28 told.statement ++ effect_lines x (y + 13 * in_three 28 told.statement) told

-- an operation's box at a place: its whole text as a title, its edge, and its text
unfoldable pub box_text : ℕ → ℕ → ℕ → Stroke → List ℕ → Telling → List ℕ
box_text x y height stroke class told =
    whole_text told.statement told.effect ++ edge_text x y height stroke class ++ inner_text (x + 5) (y + 14) told ++ codes "</g>\n"

-- the edge of a column's box: thick where it is marked, thin in a thin column
abbrev pub stroke_of : Column → ℕ → Stroke
stroke_of column op = cond (op == column.marked) Thick (cond column.thin Thin Plain)

-- at which place of its column the operation with this number is drawn
abbrev pub place_of : Frame → List Arrow → Column → ℕ → ℕ
place_of frame arrows column k = slot_of frame.few arrows column.txn column.marked k

-- the box of a column's operation with this number, where these arrows are drawn and those are steps
abbrev pub op_text : Frame → List Arrow → List Arrow → Column → ℕ → Op → List ℕ
op_text frame arrows steps column k op =
    box_text (left column.place) (upper frame column.place (place_of frame arrows column k)) (box_height frame) (stroke_of column k) (box_class steps column k) (telling (rows_at arrows column.txn k) op)

-- the same, if it is drawn
abbrev pub drawn_text : Frame → List Arrow → List Arrow → Column → ℕ → Op → List ℕ
drawn_text frame arrows steps column k op = cond (is_kept frame.few arrows column.txn column.marked k) (op_text frame arrows steps column k op) []

-- the boxes of a column's operations, where so many come before these
abbrev pub boxes_text : Frame → List Arrow → List Arrow → Column → ℕ → List Op → List ℕ
boxes_text frame arrows steps column before [] = []
boxes_text frame arrows steps column before (op ∷ ops) = drawn_text frame arrows steps column (before + 1) op ++ boxes_text frame arrows steps column (before + 1) ops
