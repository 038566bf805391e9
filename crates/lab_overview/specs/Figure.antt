-- The picture in the frame of a page.
use Rattle.std.specs.Prelude.{ℕ, nat_le, nat_lt, Bool, cond, List, [], ◌++◌, length, codes}

-- the beginning of a picture that is wide: it is folded
abbrev pub fold_open : Bool → List ℕ
fold_open wide = cond wide (codes "<details>\n<summary>The picture</summary>\n") []

abbrev pub fold_close : Bool → List ℕ
fold_close wide = cond wide (codes "</details>\n") []

-- what stands before a picture
unfoldable pub picture_open : List ℕ
picture_open = codes "<figure>\n<div class=\"wide\" tabindex=\"0\" role=\"region\" aria-label=\"Picture\">\n"

-- what stands behind it
unfoldable pub picture_close : List ℕ
picture_close = codes "</div>\n<figcaption>Each column is a transaction, each box a statement and what it did; an arrow leads from what comes before to what comes behind.</figcaption>\n</figure>\n"

-- a picture, as it is
unfoldable pub drawn_text : Bool → List ℕ → List ℕ
drawn_text wide picture = fold_open wide ++ picture_open ++ picture ++ picture_close ++ fold_close wide

-- what stands in place of one that is too long
unfoldable pub no_picture : List ℕ
no_picture = codes "<p>The picture has more than 65,536 bytes and isn't here: <code>hermitage_lab picture</code> draws it.</p>\n"

-- whether so many columns are wide
abbrev pub is_wide : List ℕ → Bool
is_wide columns = nat_lt 12 (length columns)

-- the picture of these columns, where it isn't too long
abbrev pub figure_text : List ℕ → List ℕ → List ℕ
figure_text columns picture = cond (nat_le (length picture) 65536) (drawn_text (is_wide columns) picture) no_picture
