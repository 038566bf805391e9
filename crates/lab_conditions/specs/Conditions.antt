-- Conditions on the rows of one table, and whether one of them is true of a row.
use Rattle.std.specs.Prelude.{ℕ, ℤ, pos, Bool, ◌||◌}
use Rattle.std.specs.Ordering.{int_eq}
use Rattle.std.specs.Coded.{Coded, code_by, coded×, coded_bool}
use Rattle.std.proofs.Common.{refl}
use Rattle.lab_table.specs.Statement.{where_holds}
use Rattle.lab_table.specs.declared.statement.StatementKind.{StatementKind}
use Rattle.lab_table.specs.declared.statement.StatementKind.TheVariants.{Select, Update, Insert, Delete}
use Rattle.lab_conditions.specs.Column.{Tests, coded_tests, passes}
use Rattle.lab_conditions.specs.Filed.{Filed, coded_filed, any_filed}

-- conditions by what they test: nothing, the id, the value, and all others
pub record Conditions : Type 0 where
  pub whole : Bool
  pub ids : Tests
  pub values : Tests
  pub others : Filed

-- conditions are stored as the tuple of their parts
abbrev pub coded_conditions : Coded Conditions
coded_conditions =
    code_by (Bool × (Tests × (Tests × Filed)))
    (coded× coded_bool (coded× coded_tests (coded× coded_tests coded_filed)))
    (λ c. (c.whole, (c.ids, (c.values, c.others))))
    (λ p. record { whole = p.0; ids = p.1.0; values = p.1.1.0; others = p.1.1.1 })
    (λ _. refl)

-- whether one of the conditions is true of the row of this number and with this value
abbrev pub any_holds : Conditions → ℕ → ℤ → Bool
any_holds c id value = c.whole || (passes c.ids (pos id) || (passes c.values value || any_filed c.others id value))

-- whether a row of the table matches a statement of this kind
abbrev pub kind_holds : StatementKind → ℕ → ℤ → Bool
kind_holds (Select pred) id value = where_holds pred id value
kind_holds (Update expr pred) id value = where_holds pred id value
kind_holds (Insert own new) id value = int_eq (pos id) (pos own)
kind_holds (Delete pred) id value = where_holds pred id value
