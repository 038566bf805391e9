-- What an index of conditions says of rows, and which statements it covers.
use Rattle.std.specs.Prelude.{◌≡◌, ℕ, ℤ, Bool, ◌&&◌, Option, Some, None, List}
use Rattle.std.specs.List.{list_any}
use Rattle.std.specs.Coded.{Coded, coded×, coded_list, coded_option, coded_ℕ}
use Rattle.lab_table.specs.Row.{Row, is_in}
use Rattle.lab_table.specs.Statement.{selects}
use Rattle.lab_table.specs.declared.statement.Statement.{Statement}
use Rattle.lab_conditions.specs.Conditions.{Conditions, coded_conditions, any_holds}

-- the conditions on the rows of some tables; none once the index has given up
abbrev pub Index : Type 0
Index = Option (List (List ℕ × Conditions))

abbrev pub coded_index : Coded Index
coded_index = coded_option (coded_list (coded× (coded_list coded_ℕ) coded_conditions))

-- whether a row with this value is one of the table, and one of the table's conditions is true of it
abbrev pub table_selects : Row → ℤ → List ℕ × Conditions → Bool
table_selects row value t = is_in t.0 row && any_holds t.1 row.id value

-- whether a condition of one of the tables is true of a row with this value
abbrev pub any_selects : List (List ℕ × Conditions) → Row → ℤ → Bool
any_selects tables row value = list_any (table_selects row value) tables

-- whether one of some statements matches a row with this value
abbrev pub any_matches : List Statement → Row → ℤ → Bool
any_matches statements row value = list_any (λ s. selects s row value) statements

-- the index finds a condition for a row exactly where one of the statements matches it; or it has given up
abbrev pub Covers : Index → List Statement → Type 0
Covers None statements = Unit {0}
Covers (Some tables) statements = (row : Row) (value : ℤ) → any_selects tables row value ≡ any_matches statements row value
