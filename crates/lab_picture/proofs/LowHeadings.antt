-- What stands above the columns is low.
use Rattle.std.proofs.Common.{◌≤◌, ℕ, ◌==◌, Bool, true, false, cond, nat_lt, Some, None, Option, List, [], ◌∷◌, length, arith}
use Rattle.lab_picture.specs.{Heading.{title_bytes, line_bytes, far_lines, marked_lines, has_thin, head_y}, Keys.{has_key}, Text.{back, in_one, in_two, in_four}, declared.keys.Key.TheVariants.{Solid, Dashed, Sees}}
use Rattle.lab_drawing.specs.{Sketch.{Sketch}, declared.drawing.{Arrow.{Arrow}, Spot.{Spot}}}

-- a line that there may be is one
line : (b : Bool) → cond b 1 0 ≤ 1
line true = omega arith
line false = omega arith

one : (text : List ℕ) → in_one text ≤ 1
one text = elim (length text == 0) as (λ b. cond b 0 1 ≤ 1) [ true ↦ omega arith | false ↦ omega arith ]

two : (width : ℕ) (text : List ℕ) → in_two width text ≤ 2
two width text = omega (arith, one text, one (back width text))

four : (width : ℕ) (text : List ℕ) → in_four width text ≤ 4
four width text = omega (arith, one text, one (back width text), two width (back width (back width text)))

far : (columns : ℕ) (arrows : List Arrow) → far_lines columns arrows ≤ 1
far columns [] = omega arith
far columns (a ∷ more) = line (nat_lt 3 columns)

marked : (spot : Option Spot) → marked_lines spot ≤ 1
marked None = omega arith
marked (Some spot) = omega arith

pub head_low : (few : Bool) (d : Sketch) → head_y few d ≤ 276
head_low few d =
    omega (
      arith,
      two (title_bytes (length d.columns)) d.title,
      four (line_bytes (length d.columns)) d.about,
      one d.note,
      line (nat_lt 40 (length d.columns)),
      far (length d.columns) d.forward,
      line (has_key Solid d),
      line (has_key Dashed d),
      line (has_key Sees d),
      marked d.marked,
      line (has_thin d),
      line (nat_lt 1 (length d.columns)),
      line few,
    )
