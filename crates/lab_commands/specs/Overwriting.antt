-- Rows put into a table one after another, in place.
use Rattle.std.specs.Prelude.{List, [], ◌∷◌}
use Rattle.lab_table.specs.Row.{Row}
use Rattle.lab_table.specs.Table.{State, Table, put}

-- a table with each listed row put into its state, one after another
abbrev pub put_each : List (Row × State) → Table → Table
put_each [] table = table
put_each (write ∷ writes) table = put_each writes (put write.0 write.1 table)
