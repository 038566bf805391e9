-- The position of a row's entry in a list.
use Rattle.std.specs.Prelude.{ℕ, Bool, false, Option, Some, None, List, slice_get}
use Rattle.lab_table.specs.Row.{Row, row_test, is_in}

-- whether an entry is the row's
abbrev pub is_row : {V : Type 0} → Row → Option (Row × V) → Bool
is_row row None = false
is_row row (Some e) = row_test row e.0

-- whether the row's entry stands at a place
abbrev pub is_row_at : {V : Type 0} → List (Row × V) → ℕ → Row → Bool
is_row_at es place row = is_row row (slice_get es place)

-- whether an entry is of a row of a table
abbrev pub is_of : {V : Type 0} → List ℕ → Row × V → Bool
is_of table e = is_in table e.0
