-- A row that a statement may match is one of the statement's table.
use Rattle.std.proofs.{Common.{◌≡◌, ℕ, true, List, Option, ap}, lemmas.Bool.{and_parts}}
use Rattle.lab_table.{specs.{Row.{Row, is_in, numbered, of_table}, Predicate.{Predicate}, Statement.{where_may_hold, may_pick, may_match, kind_may_match}, declared.statement.{Statement.{Statement}, StatementKind.{StatementKind, TheVariants.{Select, Update, Insert, Delete}}}}, proofs.Maps.{same_row}}

module _ (table : List ℕ) where
  picked_table : (pred : Option Predicate) (row : Row) → may_pick table pred row ≡ true → row.table ≡ table
  picked_table pred row may = of_table table row (and_parts (is_in table row) (where_may_hold pred row.id) may).0

  matched_table : (kind : StatementKind) (row : Row) → kind_may_match table kind row ≡ true → row.table ≡ table
  matched_table (Select pred) row may = picked_table pred row may
  matched_table (Update expr pred) row may = picked_table pred row may
  matched_table (Insert id new) row may = ap (λ (r : Row). r.table) (same_row row (numbered table id) may)
  matched_table (Delete pred) row may = picked_table pred row may

pub own_table : (s : Statement) (row : Row) → may_match s row ≡ true → row.table ≡ s.table
own_table s row may = matched_table s.table s.kind row may
