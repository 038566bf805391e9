-- The rules of every history: limits, distinct numbers, statements that can be printed, and what a view may list.
use Rattle.std.specs.Prelude.{◌≡◌, ℕ, ◌+◌, ◌≤◌, Bool, true, false, ◌==◌, ◌&&◌, nat_le, List, [], ◌∷◌, ◌++◌, length, map, flat_map, sum, cond}
use Rattle.std.specs.List.{list_any, list_all}
use Rattle.std.specs.FinMap as finite
use Rattle.lab_table.specs.Row.{Row, row_eq}
use Rattle.lab_table.specs.TableName.{table_name_eq}
use Rattle.lab_printing.specs.Limits.{StatementPrints}
use Rattle.lab_history.specs.History.{History}
use Rattle.lab_history.specs.Limits.{max_transactions, max_operations, max_tables, max_ids, max_entries}
use Rattle.lab_history.specs.declared.transaction.Txn.{Txn}
use Rattle.lab_history.specs.declared.operation.Op.{Op}
use Rattle.lab_history.specs.declared.operation.VersionName.{VersionName}
use Rattle.lab_history.specs.declared.operation.VersionName.TheVariants.{Initial, Of}

-- no number comes twice
abbrev pub AllDistinct : List ℕ → Type 0
AllDistinct [] = Unit {0}
AllDistinct (n ∷ ns) = (list_any (λ m. m == n) ns ≡ false) × AllDistinct ns

-- the operations of all transactions, in order
abbrev pub operations : List Txn → List Op
operations txns = flat_map (λ t. t.ops) txns

-- the rows that an operation's lists name
abbrev pub op_rows : Op → List Row
op_rows op = finite.keys op.view ++ finite.keys op.rows ++ finite.keys op.writes

-- the rows that all lists of a history name, in the order of the file
abbrev pub named_rows : History → List Row
named_rows h = finite.keys h.initial ++ flat_map op_rows (operations h.txns) ++ finite.keys h.installed ++ finite.keys h.end_table

-- how many different rows there are in a list
abbrev pub distinct_rows : List Row → ℕ
distinct_rows [] = 0
distinct_rows (row ∷ rows) = cond (list_any (row_eq row) rows) 0 1 + distinct_rows rows

-- the tables that rows are of
abbrev pub tables_of : List Row → List (List ℕ)
tables_of rows = map (λ row. row.table) rows

-- the tables that an operation names: its statement's, and those of its lists
abbrev pub op_tables : Op → List (List ℕ)
op_tables op = op.statement.table ∷ tables_of (op_rows op)

-- the tables that a history names, in the order of the file
abbrev pub named_tables : History → List (List ℕ)
named_tables h = tables_of (finite.keys h.initial) ++ flat_map op_tables (operations h.txns) ++ tables_of (finite.keys h.installed) ++ tables_of (finite.keys h.end_table)

-- how many different tables there are in a list
abbrev pub distinct_tables : List (List ℕ) → ℕ
distinct_tables [] = 0
distinct_tables (table ∷ tables) = cond (list_any (table_name_eq table) tables) 0 1 + distinct_tables tables

-- the entries of an operation's view, rows and writes
abbrev pub op_entries : Op → ℕ
op_entries op = length (finite.entries op.view) + length (finite.entries op.rows) + length (finite.entries op.writes)

-- a version that a view may list: not the initial one, and of an operation with a number from 1 on that a history may have
abbrev pub is_listed : VersionName → Bool
is_listed Initial = false
is_listed (Of txn op) = nat_le 1 op && nat_le op max_operations

-- an operation whose statement prints and whose view lists such versions
pub record OpKeeps (op : Op) : Type 0 where
  pub prints : StatementPrints op.statement
  pub listed : list_all is_listed (finite.values op.view) ≡ true

-- each operation does
abbrev pub OpsKeep : List Op → Type 0
OpsKeep [] = Unit {0}
OpsKeep (op ∷ ops) = OpKeeps op × OpsKeep ops

-- whether a list of installers has one
abbrev pub has_installer : List ℕ → Bool
has_installer [] = false
has_installer (n ∷ ns) = true

-- what a history keeps: its limits, distinct numbers, and operations and installers that a file can hold
pub record Keeps (h : History) : Type 0 where
  pub transactions : length h.txns ≤ max_transactions
  pub distinct : AllDistinct (map (λ t. t.no) h.txns)
  pub few_operations : length (operations h.txns) ≤ max_operations
  pub operations_keep : OpsKeep (operations h.txns)
  pub installers : list_all has_installer (finite.values h.installed) ≡ true
  pub tables : distinct_tables (named_tables h) ≤ max_tables
  pub ids : distinct_rows (named_rows h) ≤ max_ids
  pub entries : sum (map op_entries (operations h.txns)) ≤ max_entries
