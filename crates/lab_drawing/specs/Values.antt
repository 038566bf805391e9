-- Whether the result of a statement depends on the values of rows.
--
-- Origin: SQL; this project's profile.
use Rattle.std.specs.Prelude.{Bool, true, false, ◌||◌, Option, Some, None}
use Rattle.lab_table.specs.Predicate.{Predicate, Compare, Remainder, OneOf, Not, And, Or}
use Rattle.lab_table.specs.declared.predicate.Col.{Col}
use Rattle.lab_table.specs.declared.predicate.Col.TheVariants.{Id, Value}
use Rattle.lab_table.specs.declared.statement.Expr.{Expr}
use Rattle.lab_table.specs.declared.statement.Expr.TheVariants.{Set, Plus, Minus}
use Rattle.lab_table.specs.declared.statement.Statement.{Statement}
use Rattle.lab_table.specs.declared.statement.StatementKind.{StatementKind}
use Rattle.lab_table.specs.declared.statement.StatementKind.TheVariants.{Select, Update, Insert, Delete}

-- whether it is the column of values
abbrev pub is_value : Col → Bool
is_value Id = false
is_value Value = true

-- whether a condition has that column
abbrev pub names_value : Predicate → Bool
names_value (Compare col cmp number) = is_value col
names_value (Remainder col modulus rest) = is_value col
names_value (OneOf col numbers) = is_value col
names_value (Not p) = names_value p
names_value (And p q) = names_value p || names_value q
names_value (Or p q) = names_value p || names_value q

-- the same of the condition that a statement may have
abbrev pub where_names_value : Option Predicate → Bool
where_names_value None = false
where_names_value (Some p) = names_value p

-- whether an expression computes with the old value
abbrev pub computes : Expr → Bool
computes (Set n) = false
computes (Plus n) = true
computes (Minus n) = true

-- the same of a statement of this kind
abbrev pub kind_uses_values : StatementKind → Bool
kind_uses_values (Select pred) = true
kind_uses_values (Update expr pred) = computes expr || where_names_value pred
kind_uses_values (Insert id new) = false
kind_uses_values (Delete pred) = where_names_value pred

-- whether what a statement does to a row depends on the row's value: a select returns it, an update may compute with
-- it, and a condition may be on it
abbrev pub uses_values : Statement → Bool
uses_values s = kind_uses_values s.kind
