-- The lines above the columns of a picture, and their positions.
use Rattle.std.specs.Prelude.{ℕ, ◌+◌, ◌-◌, ◌*◌, nat_lt, Bool, true, false, cond, Option, Some, None, List, [], ◌∷◌, ◌++◌, length, codes}
use Rattle.std.specs.Fmt.{decimal}
use Rattle.std.specs.List.{list_any}
use Rattle.lab_picture.specs.Arrows.{style_text}
use Rattle.lab_picture.specs.Columns.{is_thin, shown_columns}
use Rattle.lab_picture.specs.Keys.{has_key, key_lines}
use Rattle.lab_drawing.specs.Sketch.{Sketch}
use Rattle.lab_picture.specs.Slots.{few_note}
use Rattle.lab_picture.specs.Text.{line_at, text_at, two_lines, four_lines, in_one, in_two, in_four}
use Rattle.lab_drawing.specs.declared.drawing.Arrow.{Arrow}
use Rattle.lab_drawing.specs.declared.drawing.Spot.{Spot}
use Rattle.lab_picture.specs.declared.keys.Key.{Key}
use Rattle.lab_picture.specs.declared.keys.Key.TheVariants.{Solid, Dashed, Sees}

-- how many bytes a line of the title has over so many columns
abbrev pub title_bytes : ℕ → ℕ
title_bytes columns = cond (nat_lt 2 columns) 96 59

-- how many bytes a line of other text has
abbrev pub line_bytes : ℕ → ℕ
line_bytes columns = cond (nat_lt 2 columns) 122 76

-- how many transactions are drawn, where that isn't all
abbrev pub more_text : ℕ → List ℕ
more_text columns = cond (nat_lt 40 columns) (codes "40 of " ++ decimal columns ++ codes " transactions are drawn, without the arrows to the others") []

-- how many lines that has
abbrev pub more_lines : ℕ → ℕ
more_lines columns = cond (nat_lt 40 columns) 1 0

-- that arrows are left out, where there are those of a yes over more than one band
abbrev pub far_text : ℕ → List Arrow → List ℕ
far_text columns [] = []
far_text columns (a ∷ more) = cond (nat_lt 3 columns) (codes "dependencies between transactions further apart aren't drawn") []

-- how many lines that has
abbrev pub far_lines : ℕ → List Arrow → ℕ
far_lines columns [] = 0
far_lines columns (a ∷ more) = cond (nat_lt 3 columns) 1 0

-- how many lines tell of a marked operation
abbrev pub marked_lines : Option Spot → ℕ
marked_lines None = 0
marked_lines (Some spot) = 1

-- whether a column that is drawn is thin
abbrev pub has_thin : Sketch → Bool
has_thin d = list_any (is_thin d.thin) (shown_columns d.columns)

-- how many lines tell of thin columns
abbrev pub thin_lines : Sketch → ℕ
thin_lines d = cond (has_thin d) 1 0

-- how many lines tell of boxes side by side
abbrev pub beside_lines : ℕ → ℕ
beside_lines columns = cond (nat_lt 1 columns) 1 0

-- the ground lines of what follows the title: the report's line, the note, how many transactions are drawn, which arrows aren't, the keys, what a thick edge is, what a thin column is, what boxes side by side say, and that few operations are drawn
abbrev pub about_y : Sketch → ℕ
about_y d = 30 + 18 * in_two (title_bytes (length d.columns)) d.title

abbrev pub note_y : Sketch → ℕ
note_y d = about_y d + 14 * in_four (line_bytes (length d.columns)) d.about

abbrev pub more_y : Sketch → ℕ
more_y d = note_y d + 14 * in_one d.note

abbrev pub far_y : Sketch → ℕ
far_y d = more_y d + 14 * more_lines (length d.columns)

abbrev pub solid_y : Sketch → ℕ
solid_y d = far_y d + 14 * far_lines (length d.columns) d.forward

abbrev pub dashed_y : Sketch → ℕ
dashed_y d = solid_y d + 14 * key_lines Solid d

abbrev pub sees_y : Sketch → ℕ
sees_y d = dashed_y d + 14 * key_lines Dashed d

abbrev pub marked_y : Sketch → ℕ
marked_y d = sees_y d + 14 * key_lines Sees d

abbrev pub thin_y : Sketch → ℕ
thin_y d = marked_y d + 14 * marked_lines d.marked

abbrev pub beside_y : Sketch → ℕ
beside_y d = thin_y d + 14 * thin_lines d

abbrev pub few_y : Sketch → ℕ
few_y d = beside_y d + 14 * beside_lines (length d.columns)

-- how many lines tell that few operations are drawn
abbrev pub few_lines : Bool → ℕ
few_lines few = cond few 1 0

-- the ground line of what stands above the columns of the first band
abbrev pub head_y : Bool → Sketch → ℕ
head_y few d = few_y d + 14 * few_lines few + 14

-- the title's letters
abbrev pub title_style : List ℕ
title_style = codes " font-size=\"14\" font-weight=\"bold\""

-- the title, and the line of the report
unfoldable pub title_lines : Sketch → List ℕ
title_lines d =
    two_lines title_style 26 30 18 (title_bytes (length d.columns)) d.title ++ four_lines [] 26 (about_y d) 14 (line_bytes (length d.columns)) d.about

-- the note, how many transactions are drawn, and which arrows aren't
unfoldable pub notes_text : Sketch → List ℕ
notes_text d =
    line_at [] 26 (note_y d) d.note ++ line_at [] 26 (more_y d) (more_text (length d.columns)) ++ line_at [] 26 (far_y d) (far_text (length d.columns) d.forward)

-- the end of an arrow as it is drawn
unfoldable pub sample_end : ℕ → Bool → List ℕ
sample_end y dashed = decimal (y - 4) ++ codes " H58" ++ style_text false dashed

-- an arrow as it is drawn
unfoldable pub sample_path : ℕ → Bool → List ℕ
sample_path y dashed = codes "<path d=\"M26 " ++ sample_end y dashed

-- and what it says
unfoldable pub sample_text : ℕ → Bool → List ℕ → List ℕ
sample_text y dashed says = sample_path y dashed ++ text_at [] 66 y says

-- what a key says
abbrev pub key_words : Key → List ℕ
key_words Solid = codes "dependency: the second saw or overwrote what the first wrote"
key_words Dashed = codes "anti-dependency: the first didn't see what the second wrote"
key_words Sees = codes "sees: the second saw what the first wrote"

-- whether its arrow is dashed
abbrev pub key_dashed : Key → Bool
key_dashed Solid = false
key_dashed Dashed = true
key_dashed Sees = false

-- a key, where a drawing has arrows that it tells of
unfoldable pub key_text : ℕ → Key → Sketch → List ℕ
key_text y key d = cond (has_key key d) (sample_text y (key_dashed key) (key_words key)) []

-- the keys of the arrows that a drawing has
unfoldable pub legend_text : Sketch → List ℕ
legend_text d = key_text (solid_y d) Solid d ++ key_text (dashed_y d) Dashed d ++ key_text (sees_y d) Sees d

-- what a thick edge says
unfoldable pub marked_text : ℕ → Option Spot → List ℕ
marked_text y None = []
marked_text y (Some spot) = text_at [] 26 y (codes "thick edge: the operation in question")

-- what a thin column says
abbrev pub thin_text : Sketch → List ℕ
thin_text d = cond (has_thin d) (codes "thin column: who wrote a version that the cycle saw") []

-- what boxes side by side say
abbrev pub beside_text : ℕ → List ℕ
beside_text columns = cond (nat_lt 1 columns) (codes "boxes side by side are in no order of time") []

-- both, and which operations are drawn
unfoldable pub columns_note : Bool → Sketch → List ℕ
columns_note few d = line_at [] 26 (thin_y d) (thin_text d) ++ line_at [] 26 (beside_y d) (beside_text (length d.columns)) ++ line_at [] 26 (few_y d) (few_note few)

-- all that stands above the columns
unfoldable pub heading_text : Bool → Sketch → List ℕ
heading_text few d =
    title_lines d ++ notes_text d ++ legend_text d ++ marked_text (marked_y d) d.marked ++ columns_note few d
