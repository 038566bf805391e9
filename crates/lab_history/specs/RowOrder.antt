-- Rows in rising order.
use Rattle.std.specs.Prelude.{Bool, true, Option, Some, None}
use Rattle.std.specs.Ordering.{is_lt}
use Rattle.lab_table.specs.Row.{Row, row_cmp}

-- whether a row comes after the one before it
abbrev pub follows : Option Row → Row → Bool
follows None row = true
follows (Some before) row = is_lt (row_cmp before row)
