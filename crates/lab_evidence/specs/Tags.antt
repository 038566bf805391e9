-- The tags around the tables of a page, with the fixed words in them.
--
-- Origin: HTML.
use Rattle.std.specs.Prelude.{ℕ, List, codes}

-- what stands before a statement, and before the versions of a row
unfoldable pub cell_open : List ℕ
cell_open = codes "<td class=\"m\">"

-- what stands before the name of a line
unfoldable pub name_open : List ℕ
name_open = codes "<th scope=\"row\" class=\"m\">"

-- what stands before what was seen
unfoldable pub saw_open : List ℕ
saw_open = codes "<td class=\"m\" data-l=\"saw\">"

-- what stands before what was listed
unfoldable pub listed_open : List ℕ
listed_open = codes "<td class=\"m\" data-l=\"listed\">"

-- what stands before what was written
unfoldable pub wrote_open : List ℕ
wrote_open = codes "<td class=\"m\" data-l=\"wrote\">"

-- what stands before how a row is in the end
unfoldable pub end_open : List ℕ
end_open = codes "<td class=\"m\" data-l=\"in the end\">"

-- what stands before how many entries there are
unfoldable pub count_open : List ℕ
count_open = codes "<span class=\"e\">of "

-- what stands before what is asked of an operation
unfoldable pub note_open : List ℕ
note_open = codes " <span class=\"note\">"

-- what stands before how many statements there are
unfoldable pub untold_open : List ℕ
untold_open = codes "<tr><td colspan=\"5\">Of "

-- what stands before the number of a transaction
unfoldable pub txn_head : List ℕ
txn_head = codes "<tbody>\n<tr class=\"t\" id=\"t"

-- the end of a line and of its last cell
unfoldable pub line_close : List ℕ
line_close = codes "</td></tr>\n"

-- the end of a head and of its line
unfoldable pub head_close : List ℕ
head_close = codes "</th></tr>\n"

-- what stands behind the rows
unfoldable pub rows_close : List ℕ
rows_close = codes "</tbody>\n</table>\n</section>\n"
