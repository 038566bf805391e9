-- The committed rows after the line of a script.
use Rattle.std.specs.Prelude.{◌≡◌, ℕ, ℤ, ⊤, ◌-◌, Option, Some, None, List, [], length, take, slice_get}
use Rattle.std.specs.FinMap.{entries}
use Rattle.lab_table.specs.Row.{Row}
use Rattle.lab_table.specs.Table.{Table}
use Rattle.lab_commands.specs.Overwriting.{put_each}
use Rattle.lab_compare.specs.declared.behind.Cursor.{Cursor}
use Rattle.lab_compare.specs.declared.cells.Cell.{Cell}
use Rattle.lab_compare.specs.declared.commits.Commits.{Commits}
use Rattle.lab_compare.specs.declared.side.Side.{Side}
use Rattle.lab_compare.specs.declared.telling.Content.TheVariants.{Rows}
use Rattle.lab_compare.specs.declared.telling.Telling.{Telling}

-- how many writes are installed behind the event that answers a line, if one does
abbrev pub installed_at : Commits → Option Cell → Option ℕ
installed_at commits None = None
installed_at commits (Some cell) = slice_get commits.counts (length commits.counts - cell.from_end)

-- the committed rows where so many writes are installed
abbrev pub table_at : Commits → ℕ → Table
table_at commits count = put_each (take count commits.installs) commits.first

-- the same, if a number is given
abbrev pub rows_at : Commits → Option ℕ → List (Row × ℤ)
rows_at commits None = []
rows_at commits (Some count) = entries (table_at commits count)

-- the committed rows behind the line at a place: none where it isn't answered
abbrev pub rows_behind : ℕ → Side → List (Row × ℤ)
rows_behind place side = rows_at side.commits (installed_at side.commits (slice_get side.summary.cells place))

-- those are what its engine tells of the line
abbrev pub rows_told : ℕ → Side → Telling
rows_told place side = record { level = side.level; content = Rows (rows_behind place side) }

-- a cursor stands in the commits of its side, if that is given
abbrev pub StandsAt : Option Side → Cursor → Type 0
StandsAt None cursor = ⊤
StandsAt (Some side) cursor = cursor.rows ≡ table_at side.commits cursor.taken

-- a cursor stands in the commits of one of these sides
abbrev pub Stands : List Side → Cursor → Type 0
Stands sides cursor = StandsAt (slice_get sides cursor.side) cursor
