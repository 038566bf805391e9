-- Predicates and statements whose numbers are all in range.
use Rattle.std.specs.Prelude.{◌≡◌, true, ℕ, ◌≤◌, ℤ, pos, negsuc, ◌≤ℤ◌, Option, Some, None}
use Rattle.lab_table.specs.Predicate.{Predicate}
use Rattle.lab_table.specs.Predicate as predicate
use Rattle.lab_table.specs.declared.statement.Statement.{Statement}
use Rattle.lab_table.specs.declared.statement.StatementKind.{StatementKind}
use Rattle.lab_table.specs.declared.statement.StatementKind.TheVariants as kind
use Rattle.lab_table.specs.declared.statement.Expr.{Expr}
use Rattle.lab_table.specs.declared.statement.Expr.TheVariants as expr
use Rattle.lab_table.specs.declared.statement.Command.{Command}
use Rattle.lab_table.specs.declared.statement.Command.TheVariants as command
use Rattle.lab_table.specs.Row.{Row}
use Rattle.lab_table.specs.TableName.{is_table_name}
use Rattle.lab_printing.specs.Each.{Each}

-- from -1,000,000,000 to 1,000,000,000
abbrev pub ValueInRange : ℤ → Type 0
ValueInRange z = (negsuc 999999999 ≤ℤ z) × (z ≤ℤ pos 1000000000)

-- from 1 to 999,999
abbrev pub RowInRange : ℕ → Type 0
RowInRange id = (1 ≤ id) × (id ≤ 999999)

-- the name of a row's table, and the numbers of the row
abbrev pub EntryInRange : Row × ℤ → Type 0
EntryInRange row = (is_table_name row.0.table ≡ true) × RowInRange row.0.id × ValueInRange row.1

-- from 1 to 1,000,000
abbrev pub ModulusInRange : ℕ → Type 0
ModulusInRange m = (1 ≤ m) × (m ≤ 1000000)

-- each number of a predicate
abbrev pub PredInRange : Predicate → Type 0
PredInRange (predicate.Compare c m z) = ValueInRange z
PredInRange (predicate.Remainder c m r) = ModulusInRange m × ValueInRange r
PredInRange (predicate.OneOf c zs) = Each ValueInRange zs
PredInRange (predicate.Not p) = PredInRange p
PredInRange (predicate.And p q) = PredInRange p × PredInRange q
PredInRange (predicate.Or p q) = PredInRange p × PredInRange q

-- each number of what stands behind where
abbrev pub WhereInRange : Option Predicate → Type 0
WhereInRange None = Unit {0}
WhereInRange (Some p) = PredInRange p

-- the number of an update
abbrev pub ExprInRange : Expr → Type 0
ExprInRange (expr.Set z) = ValueInRange z
ExprInRange (expr.Plus z) = ValueInRange z
ExprInRange (expr.Minus z) = ValueInRange z

-- each number of what a statement does
abbrev pub KindInRange : StatementKind → Type 0
KindInRange (kind.Select p) = WhereInRange p
KindInRange (kind.Update e p) = ExprInRange e × WhereInRange p
KindInRange (kind.Insert id z) = RowInRange id × ValueInRange z
KindInRange (kind.Delete p) = WhereInRange p

-- the name of a statement's table, and each number of it
abbrev pub StatementInRange : Statement → Type 0
StatementInRange s = (is_table_name s.table ≡ true) × KindInRange s.kind

-- the table's name and each number of what a command runs
abbrev pub CommandInRange : Command → Type 0
CommandInRange (command.Run s) = StatementInRange s
CommandInRange c = Unit {0}
