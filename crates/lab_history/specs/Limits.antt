-- The limits of a history.
use Rattle.std.specs.Prelude.{ℕ}
-- the most different tables that its lists and its statements name
pub use Rattle.lab_table.specs.TableSet.{max_tables}

-- the most bytes of a file
abbrev pub max_file_bytes : ℕ
max_file_bytes = 8388608

-- the most transactions
abbrev pub max_transactions : ℕ
max_transactions = 1000

-- the most operations of all transactions together
abbrev pub max_operations : ℕ
max_operations = 10000

-- the most different rows that its lists name
abbrev pub max_ids : ℕ
max_ids = 1000

-- the most entries of views, rows and writes together
abbrev pub max_entries : ℕ
max_entries = 200000
