-- The table of rows: their versions and their final values.
use Rattle.std.specs.Prelude.{ℕ, ℤ, ◌+◌, ◌==◌, nat_le, min, Bool, true, false, ◌||◌, cond, None, is_some, List, [], ◌∷◌, ◌++◌, length, take, flat_map, codes}
use Rattle.std.specs.FinMap as finite
use Rattle.lab_table.specs.Row.{Row}
use Rattle.lab_history.specs.History.{History}
use Rattle.lab_drawing.specs.Text.{state_text}
use Rattle.lab_drawing.specs.Rows.{is_named}
use Rattle.lab_evidence.specs.Chains.{chain_text}
use Rattle.lab_evidence.specs.Markup.{row_text}
use Rattle.lab_evidence.specs.Phrases.{rows_caption}
use Rattle.lab_evidence.specs.Scope.{Scope}
use Rattle.lab_evidence.specs.Tags.{name_open, cell_open, end_open, rows_close}
use Rattle.lab_evidence.specs.Transactions.{shown_text}

-- a row, but where it is to be left out
abbrev pub row_unless : Row → Bool → List Row
row_unless row out = cond out [] (row ∷ [])

-- a row that was there at first, if it isn't among these
abbrev pub initial_row : List Row → Row × ℤ → List Row
initial_row rows e = row_unless e.0 (is_named rows e.0)

-- a row that came later
abbrev pub later_row : History → List Row → Row × List ℕ → List Row
later_row h rows e = row_unless e.0 (is_named rows e.0 || is_some (finite.get h.initial e.0))

-- the rows that aren't in question: those that were there at first, and then those that came later
abbrev pub other_rows : History → List Row → List Row
other_rows h rows = flat_map (initial_row rows) (finite.entries h.initial) ++ flat_map (later_row h rows) (finite.entries h.installed)

-- how many others are shown beside so many in question: all, if there are forty or fewer rows; else none, or forty where none is in question
abbrev pub room : ℕ → ℕ → ℕ
room asked others = cond (nat_le (asked + others) 40) others (cond (asked == 0) 40 0)

-- the others that are shown
abbrev pub shown_rows : ℕ → List Row → List Row
shown_rows asked rows = take (min (length rows) (room asked (length rows))) rows

-- the beginning of a row's line, by whether it is in question
abbrev pub row_open : Bool → List ℕ
row_open bold = cond bold (codes "<tr class=\"b\">") (codes "<tr>")

-- its name
unfoldable pub row_name_cell : Bool → Row → List ℕ
row_name_cell bold row = row_open bold ++ name_open ++ row_text row ++ codes "</th>"

-- its versions
unfoldable pub versions_cell : History → Scope → Row → List ℕ
versions_cell h s row = cell_open ++ chain_text h s row None None ++ codes "</td>"

-- how it is in the end
unfoldable pub end_text : History → Row → List ℕ
end_text h row = end_open ++ state_text (finite.get h.end_table row)

-- the same as a cell
unfoldable pub end_cell : History → Row → List ℕ
end_cell h row = end_text h row ++ codes "</td></tr>\n"

-- a row's line
unfoldable pub row_line : History → Scope → Bool → Row → List ℕ
row_line h s bold row = row_name_cell bold row ++ versions_cell h s row ++ end_cell h row

-- the lines of rows
abbrev pub rows_lines : History → Scope → Bool → List Row → List ℕ
rows_lines h s bold rows = flat_map (row_line h s bold) rows

-- the beginning
unfoldable pub rows_open : List ℕ
rows_open = codes "<section aria-labelledby=\"rows\">\n<h2 id=\"rows\">The rows</h2>\n<table class=\"s\">\n<caption>"

-- the head of the part, where so many rows are shown of so many
unfoldable pub rows_head : ℕ → ℕ → List ℕ
rows_head shown all = rows_open ++ shown_text shown all ++ rows_caption

-- the part up to the end of its lines, where these are the rows that aren't in question
unfoldable pub rows_told : History → Scope → List Row → List ℕ
rows_told h s others =
    rows_head (length s.rows + length (shown_rows (length s.rows) others)) (length s.rows + length others)
    ++ rows_lines h s true s.rows ++ rows_lines h s false (shown_rows (length s.rows) others)

-- the whole part, where these are
unfoldable pub rows_with : History → Scope → List Row → List ℕ
rows_with h s others = rows_told h s others ++ rows_close

-- the whole part
abbrev pub rows_part : History → Scope → List ℕ
rows_part h s = rows_with h s (other_rows h s.rows)
