-- How deep a predicate's printed form goes.
use Rattle.std.specs.Prelude.{ℕ, suc, max, Bool, true, false, ◌||◌, Option, Some, None}
use Rattle.lab_table.specs.Predicate.{Predicate}
use Rattle.lab_table.specs.Predicate as predicate
use Rattle.lab_table.specs.declared.statement.Statement.{Statement}
use Rattle.lab_table.specs.declared.statement.StatementKind.{StatementKind}
use Rattle.lab_table.specs.declared.statement.StatementKind.TheVariants as kind
use Rattle.lab_printing.specs.Printed.{is_and, is_or}

-- one more if there are parentheses round it
abbrev pub deeper : Bool → ℕ → ℕ
deeper true d = suc d
deeper false d = d

-- the parentheses and nots of the printed form that are open at one place, at most
abbrev pub depth_of : Predicate → ℕ
depth_of (predicate.Compare c m n) = 0
depth_of (predicate.Remainder c m r) = 0
depth_of (predicate.OneOf c ns) = 0
depth_of (predicate.Not p) = suc (deeper (is_and p || is_or p) (depth_of p))
depth_of (predicate.And p q) = max (deeper (is_or p) (depth_of p)) (deeper (is_and q || is_or q) (depth_of q))
depth_of (predicate.Or p q) = max (depth_of p) (deeper (is_or q) (depth_of q))

-- the depth of a where clause, 0 without one
abbrev pub where_depth : Option Predicate → ℕ
where_depth None = 0
where_depth (Some p) = depth_of p

-- the depth of the printed form of a statement of this kind
abbrev pub kind_depth : StatementKind → ℕ
kind_depth (kind.Select p) = where_depth p
kind_depth (kind.Update e p) = where_depth p
kind_depth (kind.Insert id value) = 0
kind_depth (kind.Delete p) = where_depth p

-- the depth of a statement's printed form
abbrev pub statement_depth : Statement → ℕ
statement_depth s = kind_depth s.kind
