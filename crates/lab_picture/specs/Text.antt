-- The texts of a picture: lines and words, cut to their width.
--
-- Origin: SVG 1.1.
use Rattle.std.specs.Prelude.{ℕ, ◌+◌, ◌-◌, ◌==◌, nat_le, ◌&&◌, cond, List, [], ◌∷◌, ◌++◌, length, take, drop, codes}
use Rattle.std.specs.Fmt.{decimal}
use Rattle.lab_drawing.specs.Text.{escaped}

-- the place behind the last blank of bytes that have so many before them; the one given where there is no blank
abbrev pub last_from : ℕ → ℕ → List ℕ → ℕ
last_from last before [] = last
last_from last before (b ∷ bs) = last_from (cond (b == 32) (before + 1) last) (before + 1) bs

-- how many bytes a text has up to its last blank, and with it; 0 where it has no blank
abbrev pub last_blank : List ℕ → ℕ
last_blank text = last_from 0 0 text

-- how deep in parentheses it is behind a byte
abbrev pub depth_behind : ℕ → ℕ → ℕ
depth_behind depth b = cond (b == 40) (depth + 1) (cond (b == 41) (depth - 1) depth)

-- the place behind the last blank outside parentheses, where it is so deep in them before these bytes; the one given where there is no such blank
abbrev pub outside_from : ℕ → ℕ → ℕ → List ℕ → ℕ
outside_from last depth before [] = last
outside_from last depth before (b ∷ bs) = outside_from (cond ((b == 32) && (depth == 0)) (before + 1) last) (depth_behind depth b) (before + 1) bs

-- how many bytes a text has up to its last blank outside parentheses, and with it; 0 where it has no such blank
abbrev pub last_outside : List ℕ → ℕ
last_outside text = outside_from 0 0 0 text

-- a place, or else another, or else a third: 0 is none
abbrev pub first_place : ℕ → ℕ → ℕ → ℕ
first_place outside blank width = cond (outside == 0) (cond (blank == 0) width blank) outside

-- how many bytes of a text that is longer stand on a line of this width: up to the last blank outside parentheses that fits, or else the last blank that fits, or as many as fit
abbrev pub cut : ℕ → List ℕ → ℕ
cut width text = first_place (last_outside (take (width + 1) text)) (last_blank (take (width + 1) text)) width

-- a text's first line
abbrev pub front : ℕ → List ℕ → List ℕ
front width text = cond (nat_le (length text) width) text (take (cut width text) text)

-- a text without its first line
abbrev pub back : ℕ → List ℕ → List ℕ
back width text = cond (nat_le (length text) width) [] (drop (cut width text) text)

-- a text on its last line: two dots stand for what doesn't fit
abbrev pub shown : ℕ → List ℕ → List ℕ
shown width text = cond (nat_le (length text) width) text (front (width - 3) text ++ codes "..")

-- a place, as attributes
unfoldable pub place_text : ℕ → ℕ → List ℕ
place_text x y = codes " x=\"" ++ decimal x ++ codes "\" y=\"" ++ decimal y ++ codes "\""

-- a line of text at a place, with attributes
unfoldable pub text_at : List ℕ → ℕ → ℕ → List ℕ → List ℕ
text_at attributes x y text = codes "<text" ++ attributes ++ place_text x y ++ codes ">" ++ escaped text ++ codes "</text>\n"

-- a line of text at a place, with attributes; nothing where it is empty
unfoldable pub line_at : List ℕ → ℕ → ℕ → List ℕ → List ℕ
line_at attributes x y text = cond (length text == 0) [] (text_at attributes x y text)

-- a text in one line, with attributes
unfoldable pub one_line : List ℕ → ℕ → ℕ → ℕ → List ℕ → List ℕ
one_line attributes x y width text = line_at attributes x y (shown width text)

-- a text in up to two lines, the second so far below the first
unfoldable pub two_lines : List ℕ → ℕ → ℕ → ℕ → ℕ → List ℕ → List ℕ
two_lines attributes x y step width text = line_at attributes x y (front width text) ++ one_line attributes x (y + step) width (back width text)

-- in up to three
unfoldable pub three_lines : List ℕ → ℕ → ℕ → ℕ → ℕ → List ℕ → List ℕ
three_lines attributes x y step width text = line_at attributes x y (front width text) ++ two_lines attributes x (y + step) step width (back width text)

-- in up to four
unfoldable pub four_lines : List ℕ → ℕ → ℕ → ℕ → ℕ → List ℕ → List ℕ
four_lines attributes x y step width text = line_at attributes x y (front width text) ++ three_lines attributes x (y + step) step width (back width text)

-- how many lines a text has in one line: none where it is empty
abbrev pub in_one : List ℕ → ℕ
in_one text = cond (length text == 0) 0 1

-- in up to two
abbrev pub in_two : ℕ → List ℕ → ℕ
in_two width text = in_one text + in_one (back width text)

-- in up to three
abbrev pub in_three : ℕ → List ℕ → ℕ
in_three width text = in_one text + in_two width (back width text)

-- in up to four
abbrev pub in_four : ℕ → List ℕ → ℕ
in_four width text = in_one text + in_three width (back width text)
