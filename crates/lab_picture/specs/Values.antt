-- The first and the last value of each row of a cycle.
use Rattle.std.specs.Prelude.{ℕ, ◌+◌, ◌-◌, nat_lt, min, cond, List, [], ◌∷◌, ◌++◌, length, take, codes}
use Rattle.std.specs.Fmt.{decimal}
use Rattle.std.specs.FinMap as finite
use Rattle.lab_printing.specs.Printed.{printed_row_name}
use Rattle.lab_table.specs.Row.{Row}
use Rattle.lab_table.specs.Table.{State}
use Rattle.lab_history.specs.History.{History}
use Rattle.lab_drawing.specs.Text.{state_text}
use Rattle.lab_picture.specs.Text.{text_at, line_at}

-- a row's name before its values
unfoldable pub value_lead : Row → List ℕ
value_lead row = codes "row " ++ printed_row_name row ++ codes ": "

-- a first and a last value
unfoldable pub first_and_last : State → State → List ℕ
first_and_last first last = state_text first ++ codes " at first, " ++ state_text last ++ codes " at the end"

-- a row's first and last value
abbrev pub value_text : History → Row → List ℕ
value_text h row = value_lead row ++ first_and_last (finite.get h.initial row) (finite.get h.end_table row)

-- a line for each of these rows
abbrev pub values_at : History → ℕ → List Row → List ℕ
values_at h y [] = []
values_at h y (row ∷ rows) = text_at [] 26 y (value_text h row) ++ values_at h (y + 14) rows

-- how many rows have no line, where there are any
abbrev pub rest_text : ℕ → List ℕ
rest_text rows = cond (nat_lt 40 rows) (codes ".. and " ++ decimal (rows - 40) ++ codes " rows more") []

-- the rows that have a line: no more than forty
abbrev pub first_rows : List Row → List Row
first_rows rows = take (min (length rows) 40) rows

-- a line for each of the first forty rows, and one that says how many more there are
unfoldable pub values_text : History → ℕ → List Row → List ℕ
values_text h y rows = values_at h y (first_rows rows) ++ line_at [] 26 (y + 560) (rest_text (length rows))

-- how many lines that are
abbrev pub value_lines : List Row → ℕ
value_lines rows = min (length rows) 41
