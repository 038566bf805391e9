-- Ranges of ids, each of one table.
use Rattle.std.specs.Prelude.{ℕ, ◌-◌, Bool, ◌&&◌, nat_le, nat_lt, List}
use Rattle.std.specs.List.{list_any}
use Rattle.lab_table.specs.Row.{Row}
use Rattle.lab_table.specs.TableName.{table_name_eq}
use Rattle.lab_history.specs.declared.id_range.IdRange.{IdRange}

-- how many rows a range has
abbrev pub rows_in : IdRange → ℕ
rows_in range = range.end - range.least

-- whether it has the rows from one to another
abbrev pub has_ends : IdRange → Row → Row → Bool
has_ends range first last = table_name_eq range.table first.table && table_name_eq range.table last.table && nat_le range.least first.id && nat_lt last.id range.end

-- whether it has a row
abbrev pub has_row : IdRange → Row → Bool
has_row range row = table_name_eq range.table row.table && nat_le range.least row.id && nat_lt row.id range.end

-- whether one of these ranges has a row
abbrev pub have_row : List IdRange → Row → Bool
have_row ranges row = list_any (λ range. has_row range row) ranges
