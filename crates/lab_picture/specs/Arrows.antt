-- The text of a picture's arrows.
--
-- Origin: SVG 1.1.
use Rattle.std.specs.Prelude.{ℕ, ◌+◌, ◌-◌, ◌*◌, ◌/◌, ◌==◌, min, Bool, true, false, not, cond, Option, Some, None, List, [], ◌∷◌, ◌++◌, codes}
use Rattle.std.specs.Fmt.{decimal}
use Rattle.std.specs.List.{list_any}
use Rattle.lab_printing.specs.Printed.{printed_row_name}
use Rattle.lab_judge.specs.ReportText.{kind_name}
use Rattle.lab_drawing.specs.declared.drawing.Arrow.{Arrow}
use Rattle.lab_drawing.specs.declared.drawing.Tie.{Tie}
use Rattle.lab_drawing.specs.declared.drawing.Tie.TheVariants.{Dependency, Version}
use Rattle.lab_drawing.specs.Ties.{is_dashed}
use Rattle.lab_picture.specs.declared.layout.Corner.{Corner}
use Rattle.lab_picture.specs.Layout.{exit_of, entry_of, is_next, lane, aside}
use Rattle.lab_picture.specs.declared.layout.Frame.{Frame}
use Rattle.lab_picture.specs.Text.{text_at, four_lines, in_four}

-- the column of a transaction, where so many come before these
abbrev pub column_of : ℕ → ℕ → List ℕ → Option ℕ
column_of before n [] = None
column_of before n (m ∷ ms) = cond (m == n) (Some before) (column_of (before + 1) n ms)

-- the name of what ties two operations: a dependency's as a report prints it
abbrev pub tie_name : Tie → List ℕ
tie_name (Dependency kind) = kind_name kind
tie_name Version = codes "sees"

-- what stands at an arrow
abbrev pub label_of : Arrow → List ℕ
label_of arrow = tie_name arrow.tie ++ codes "(" ++ printed_row_name arrow.row ++ codes ")"

-- labels stand in the middle of their place, on a white ground
abbrev pub label_style : List ℕ
label_style = codes " text-anchor=\"middle\" paint-order=\"stroke\" stroke=\"white\" stroke-width=\"3\""

-- a label at a place
unfoldable pub label_text : ℕ → ℕ → Arrow → List ℕ
label_text x y arrow = text_at label_style x y (label_of arrow)

-- a label in up to four lines of fourteen bytes, the last of them at a place between two columns
unfoldable pub narrow_label : ℕ → ℕ → List ℕ → List ℕ
narrow_label x y label = four_lines label_style x (y + 13 - 13 * in_four 14 label) 13 14 label

-- the label of an arrow there
unfoldable pub narrow_text : ℕ → ℕ → Arrow → List ℕ
narrow_text x y arrow = narrow_label x y (label_of arrow)

-- the way of a straight arrow
unfoldable pub straight_path : Corner → Corner → List ℕ
straight_path from to = codes "M" ++ decimal from.x ++ codes " " ++ decimal from.y ++ codes " L" ++ decimal to.x ++ codes " " ++ decimal to.y

-- the way from a box to below the boxes
unfoldable pub down_path : Corner → ℕ → List ℕ
down_path from lane = codes "M" ++ decimal from.x ++ codes " " ++ decimal from.y ++ codes " H" ++ decimal (from.x + 6) ++ codes " V" ++ decimal lane

-- the way from below the boxes to a box, which turns up or down at some distance before it
unfoldable pub across_path : ℕ → Corner → List ℕ
across_path aside to = codes " H" ++ decimal (to.x - aside) ++ codes " V" ++ decimal to.y ++ codes " H" ++ decimal to.x

-- the way of an arrow that goes below the boxes
abbrev pub round_path : Corner → ℕ → ℕ → Corner → List ℕ
round_path from lane aside to = down_path from lane ++ across_path aside to

-- how thick an arrow is, as an attribute
unfoldable pub weight_text : Bool → List ℕ
weight_text thin = cond thin (codes " stroke-width=\"0.75\"") (codes " stroke-width=\"1.5\"")

-- its dashes, and its head
unfoldable pub dash_text : Bool → List ℕ
dash_text dashed = cond dashed (codes " stroke-dasharray=\"5 3\" marker-end=\"url(#p-head)\"/>\n") (codes " marker-end=\"url(#p-head)\"/>\n")

-- what stands behind an arrow's way: black, thin or not, dashed where it is to be, with its head
unfoldable pub style_text : Bool → Bool → List ℕ
style_text thin dashed = codes "\" fill=\"none\" stroke=\"black\"" ++ weight_text thin ++ dash_text dashed

-- what opens an arrow that has a class
unfoldable pub path_text : List ℕ → List ℕ
path_text class = codes "<path" ++ class

-- the rest of an arrow from one column to the next, with its label above its higher end
unfoldable pub straight_text : Bool → Arrow → Corner → Corner → List ℕ
straight_text thin arrow from to =
    codes " d=\"" ++ straight_path from to ++ style_text thin (is_dashed arrow.tie) ++ narrow_text (from.x + 56) (min from.y to.y - 5) arrow

-- that of an arrow that goes below the boxes, with its label above its way there
unfoldable pub round_text : Bool → Arrow → Corner → ℕ → ℕ → Corner → List ℕ
round_text thin arrow from lane aside to =
    codes " d=\"" ++ round_path from lane aside to ++ style_text thin (is_dashed arrow.tie) ++ label_text ((from.x + to.x) / 2) (lane - 4) arrow

-- that of an arrow from one column to another
abbrev pub route_text : Frame → Bool → Arrow → ℕ → ℕ → List ℕ
route_text f thin arrow from to =
    cond (is_next from to) (straight_text thin arrow (exit_of f from arrow.from.op) (entry_of f to arrow.to.op))
    (round_text thin arrow (exit_of f from arrow.from.op) (lane f from to) (aside from to) (entry_of f to arrow.to.op))

-- an arrow with this class from one column to another
unfoldable pub classed_text : Frame → Bool → List ℕ → Arrow → ℕ → ℕ → List ℕ
classed_text f thin class arrow from to = path_text class ++ route_text f thin arrow from to

-- an arrow, where both transactions have columns
abbrev pub arrow_between : Frame → Bool → List ℕ → Arrow → Option ℕ → Option ℕ → List ℕ
arrow_between f thin class arrow None to = []
arrow_between f thin class arrow (Some from) None = []
arrow_between f thin class arrow (Some from) (Some to) = classed_text f thin class arrow from to

-- an arrow with this class between columns of these transactions
abbrev pub arrow_text : Frame → Bool → List ℕ → List ℕ → Arrow → List ℕ
arrow_text f thin class columns arrow = arrow_between f thin class arrow (column_of 0 arrow.from.txn columns) (column_of 0 arrow.to.txn columns)

-- an arrow of a yes: thin, without a class
abbrev pub forward_text : Frame → List ℕ → Arrow → List ℕ
forward_text f columns arrow = arrow_text f true [] columns arrow

-- whether an arrow between these columns, where both are there, goes below the boxes
abbrev pub is_round_between : Option ℕ → Option ℕ → Bool
is_round_between None to = false
is_round_between (Some from) None = false
is_round_between (Some from) (Some to) = not (is_next from to)

-- whether an arrow between columns of these transactions goes below the boxes
abbrev pub is_round : List ℕ → Arrow → Bool
is_round columns arrow = is_round_between (column_of 0 arrow.from.txn columns) (column_of 0 arrow.to.txn columns)

-- whether some arrow does
abbrev pub has_round : List ℕ → List Arrow → Bool
has_round columns arrows = list_any (is_round columns) arrows
