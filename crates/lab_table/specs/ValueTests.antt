-- Whether a condition tests a row's value, or the row's number alone.
use Rattle.std.specs.Prelude.{ℤ, Bool, false, ◌≡◌, ◌||◌, Option, Some, None}
use Rattle.lab_table.specs.Row.{Row}
use Rattle.lab_table.specs.Predicate.{Predicate, Compare, Remainder, OneOf, Not, And, Or, by_id}
use Rattle.lab_table.specs.Statement.{matches}
use Rattle.lab_table.specs.declared.statement.Statement.{Statement}
use Rattle.lab_table.specs.declared.statement.StatementKind.{StatementKind}
use Rattle.lab_table.specs.declared.statement.StatementKind.TheVariants.{Select, Update, Insert, Delete}

-- whether a condition, or a part of it, is a test of the column value
abbrev pub pred_tests : Predicate → Bool
pred_tests (Compare col cmp number) = by_id col false
pred_tests (Remainder col modulus rest) = by_id col false
pred_tests (OneOf col numbers) = by_id col false
pred_tests (Not p) = pred_tests p
pred_tests (And p q) = pred_tests p || pred_tests q
pred_tests (Or p q) = pred_tests p || pred_tests q

-- whether what stands behind where is
abbrev pub where_tests : Option Predicate → Bool
where_tests None = false
where_tests (Some p) = pred_tests p

-- whether a statement of this kind tests values
abbrev pub kind_tests : StatementKind → Bool
kind_tests (Select pred) = where_tests pred
kind_tests (Update expr pred) = where_tests pred
kind_tests (Insert id new) = false
kind_tests (Delete pred) = where_tests pred

-- a statement matches a row that is present whatever its value, or doesn't
abbrev pub IsBlind : Statement → Type 0
IsBlind s = (row : Row) (x y : ℤ) → matches s row (Some x) ≡ matches s row (Some y)
