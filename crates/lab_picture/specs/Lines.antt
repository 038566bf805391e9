-- The lines of a text that isn't cut.
use Rattle.std.specs.Prelude.{ℕ, ◌+◌, ◌==◌, cond, List, [], ◌∷◌, ◌++◌, length}
use Rattle.lab_picture.specs.Text.{front, back, line_at}

-- a text's lines, no more than the first list has bytes
abbrev pub lines_from : ℕ → List ℕ → List ℕ → List (List ℕ)
lines_from width [] text = []
lines_from width (b ∷ room) text = cond (length text == 0) [] (front width text ∷ lines_from width room (back width text))

-- all lines of a text: each has a byte at least
abbrev pub all_lines : ℕ → List ℕ → List (List ℕ)
all_lines width text = lines_from width text text

-- lines below one another
abbrev pub lines_at : ℕ → ℕ → List (List ℕ) → List ℕ
lines_at x y [] = []
lines_at x y (line ∷ lines) = line_at [] x y line ++ lines_at x (y + 13) lines
