-- Steps in which a table gets new states of its rows.
use Rattle.std.specs.Prelude.{ℤ, Option, Some, None, List, [], ◌∷◌}
use Rattle.std.specs.FinMap as map
use Rattle.lab_table.specs.Row.{Row}
use Rattle.lab_table.specs.Table.{State, Table, Writes}
use Rattle.lab_cut.specs.MadeEntries.{made_entries}

-- the new value of a row that had one
abbrev pub new_value : Option State → ℤ → Option ℤ
new_value None old = Some old
new_value (Some new) old = new

-- the rows of a list that are present in new states as well
abbrev pub kept_rows : Writes → List (Row × ℤ) → List (Row × ℤ)
kept_rows states es = made_entries (λ row old. new_value (map.get states row) old) es

-- a table with one row present
abbrev pub with_present : Table → Row → State → Table
with_present rows row None = rows
with_present rows row (Some value) = map.insert rows row value

-- a table with those rows that are present in a list of states
abbrev pub put_present : Table → List (Row × State) → Table
put_present rows [] = rows
put_present rows (e ∷ es) = put_present (with_present rows e.0 e.1) es
