-- The printed form: lower case, one space between tokens, and parentheses only where a predicate needs them.
use Rattle.std.specs.Prelude.{ℕ, ℤ, Bool, true, false, ◌||◌, if◌then◌else◌, List, [], ◌∷◌, ◌++◌, map, Option, Some, None, codes}
use Rattle.std.specs.Fmt.{decimal, signed_decimal}
use Rattle.std.specs.FinMap as finite
use Rattle.lab_table.specs.Predicate.{Predicate}
use Rattle.lab_table.specs.Predicate as predicate
use Rattle.lab_table.specs.declared.statement.Statement.{Statement}
use Rattle.lab_table.specs.declared.statement.StatementKind.{StatementKind}
use Rattle.lab_table.specs.declared.statement.StatementKind.TheVariants as kind
use Rattle.lab_table.specs.declared.statement.Command.{Command}
use Rattle.lab_table.specs.declared.statement.Command.TheVariants as command
use Rattle.lab_table.specs.Row.{Row}
use Rattle.lab_table.specs.TableName.{table_name_eq, test_name}
use Rattle.lab_table.specs.Table.{Rows}
use Rattle.lab_table.specs.declared.predicate.Col.{Col}
use Rattle.lab_table.specs.declared.predicate.Col.TheVariants as col
use Rattle.lab_table.specs.declared.predicate.Cmp.{Cmp}
use Rattle.lab_table.specs.declared.predicate.Cmp.TheVariants as cmp
use Rattle.lab_table.specs.declared.statement.Expr.{Expr}
use Rattle.lab_table.specs.declared.statement.Expr.TheVariants as expr

-- a column
abbrev pub printed_col : Col → List ℕ
printed_col col.Id = codes "id"
printed_col col.Value = codes "value"

-- a comparison, with the spaces round it
abbrev pub printed_cmp : Cmp → List ℕ
printed_cmp cmp.Eq = codes " = "
printed_cmp cmp.Ne = codes " <> "
printed_cmp cmp.Lt = codes " < "
printed_cmp cmp.Le = codes " <= "
printed_cmp cmp.Gt = codes " > "
printed_cmp cmp.Ge = codes " >= "

-- texts with a comma and a space between two of them
abbrev pub joined : List (List ℕ) → List ℕ
joined [] = []
joined (text ∷ []) = text
joined (text ∷ more ∷ texts) = text ++ codes ", " ++ joined (more ∷ texts)

-- each number
abbrev pub printed_numbers : List ℤ → List (List ℕ)
printed_numbers ns = map signed_decimal ns

-- a text, in parentheses where the test is true
abbrev pub parenthesized : Bool → List ℕ → List ℕ
parenthesized b text = if b then codes "(" ++ text ++ codes ")" else text

-- whether a predicate has an or at its top
abbrev pub is_or : Predicate → Bool
is_or (predicate.Or p q) = true
is_or p = false

-- whether a predicate has an and at its top
abbrev pub is_and : Predicate → Bool
is_and (predicate.And p q) = true
is_and p = false

-- A predicate. Parentheses are put round an or under and, round an and or an or under not, and round a right member that is the same connective.
abbrev pub printed_pred : Predicate → List ℕ
printed_pred (predicate.Compare c m n) = printed_col c ++ printed_cmp m ++ signed_decimal n
printed_pred (predicate.Remainder c m r) = printed_col c ++ codes " % " ++ decimal m ++ codes " = " ++ signed_decimal r
printed_pred (predicate.OneOf c ns) = printed_col c ++ codes " in (" ++ joined (printed_numbers ns) ++ codes ")"
printed_pred (predicate.Not p) = codes "not " ++ parenthesized (is_and p || is_or p) (printed_pred p)
printed_pred (predicate.And p q) = parenthesized (is_or p) (printed_pred p) ++ codes " and " ++ parenthesized (is_and q || is_or q) (printed_pred q)
printed_pred (predicate.Or p q) = printed_pred p ++ codes " or " ++ parenthesized (is_or q) (printed_pred q)

-- the where clause of a statement, if it has one, with the space before it
abbrev pub printed_where : Option Predicate → List ℕ
printed_where None = []
printed_where (Some p) = codes " where " ++ printed_pred p

-- the new value of an update
abbrev pub printed_expr : Expr → List ℕ
printed_expr (expr.Set n) = signed_decimal n
printed_expr (expr.Plus n) = codes "value + " ++ signed_decimal n
printed_expr (expr.Minus n) = codes "value - " ++ signed_decimal n

-- what stands before a row of a table: its name and a space; that of `test` is left out
abbrev pub printed_table_name : List ℕ → List ℕ
printed_table_name table = if table_name_eq table test_name then [] else table ++ codes " "

-- a row's name: the number of a row of `test`, and the table's name and the number of another
abbrev pub printed_row_name : Row → List ℕ
printed_row_name row = printed_table_name row.table ++ decimal row.id

-- a row's number with its value, as a list of one table's rows has it
abbrev pub printed_row : ℕ → ℤ → List ℕ
printed_row id value = codes "(" ++ decimal id ++ codes ", " ++ signed_decimal value ++ codes ")"

-- a statement of this kind on the rows of a table
abbrev pub printed_kind : List ℕ → StatementKind → List ℕ
printed_kind table (kind.Select p) = codes "select * from " ++ table ++ printed_where p
printed_kind table (kind.Update e p) = codes "update " ++ table ++ codes " set value = " ++ printed_expr e ++ printed_where p
printed_kind table (kind.Insert id value) = codes "insert into " ++ table ++ codes " (id, value) values " ++ printed_row id value
printed_kind table (kind.Delete p) = codes "delete from " ++ table ++ printed_where p

-- a statement
abbrev pub printed_statement : Statement → List ℕ
printed_statement s = printed_kind s.table s.kind

-- a command
abbrev pub printed_command : Command → List ℕ
printed_command command.Begin = codes "begin"
printed_command command.Commit = codes "commit"
printed_command command.Abort = codes "abort"
printed_command (command.Run s) = printed_statement s

-- a row with its value, as a list of rows of any table has it
abbrev pub printed_named_row : Row × ℤ → List ℕ
printed_named_row row = printed_table_name row.0.table ++ printed_row row.0.id row.1

-- each of one table's rows with its value
abbrev pub printed_rows : List (Row × ℤ) → List (List ℕ)
printed_rows [] = []
printed_rows (row ∷ rows) = printed_row row.0.id row.1 ∷ printed_rows rows

-- one table's rows, or none
abbrev pub rows_or : List ℕ → List (Row × ℤ) → List ℕ
rows_or none [] = none
rows_or none (row ∷ rows) = joined (printed_rows (row ∷ rows))

-- the rows that a statement lists, which are of its table, by rising id
abbrev pub printed_list : Rows → List ℕ
printed_list rows = rows_or (codes "none") (finite.entries rows)

-- the end of a line
abbrev pub newline : List ℕ
newline = 10 ∷ []
