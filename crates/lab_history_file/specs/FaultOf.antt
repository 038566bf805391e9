-- When a fault is true of a JSON value: stated by the value itself, at the position that the fault names.
use Rattle.std.specs.Prelude.{◌≡◌, ◌≢◌, ℕ, ◌+◌, ◌<◌, false, Option, Some, None, List, map, sum, Ok, codes}
use Rattle.std.specs.Ordering.{is_lt}
use Rattle.serde_json.specs.Data.{Data, array, Items, no_items, item}
use Rattle.serde_json.specs.Find.{as_array, as_str, at}
use Rattle.lab_table.specs.Row.{Row, row_cmp}
use Rattle.lab_table.specs.declared.statement.Statement.{Statement}
use Rattle.lab_history_file.specs.Member.{row_of, count}
use Rattle.lab_history_file.specs.Entries.{txn_in_number}
use Rattle.lab_history_file.specs.PlaceShape.{fits}
use Rattle.lab_history_file.specs.FileOf.{SpellsIn}
use Rattle.lab_history_file.specs.Format.{at_key, number_said, version_said, parts_in}
use Rattle.lab_history.specs.History.{History}
use Rattle.lab_history.specs.HistoryRules.{operations, named_tables, distinct_tables, named_rows, distinct_rows, op_entries}
use Rattle.lab_history.specs.Limits.{max_transactions, max_operations, max_tables, max_ids, max_entries}
use Rattle.lab_history_file.specs.ValueAt.{txn_at, operation_at, list_at, value_at}
use Rattle.lab_history.specs.declared.fault.FileFault.{FileFault}
use Rattle.lab_history.specs.declared.fault.FileFault.TheVariants as fault
use Rattle.lab_history.specs.declared.fault.Limit.{Limit}
use Rattle.lab_history_file.specs.declared.file_version.FileVersion.{FileVersion}
use Rattle.lab_history.specs.declared.fault.Limit.TheVariants as limit
use Rattle.lab_history.specs.declared.path.ListPlace.{ListPlace}
use Rattle.lab_history.specs.declared.path.Path.{Path}
use Rattle.lab_history.specs.declared.path.Path.TheVariants as path

-- the value at a path may not stand there
abbrev pub IsWrong : FileVersion → Data → Path → Type 0
IsWrong version d p = (v : Data) × (value_at version d p ≡ Some v) × (fits version p v ≡ false)

-- the transaction at a place has a number
abbrev pub IsNumber : Data → ℕ → ℕ → Type 0
IsNumber d txn n = (t : Data) × (txn_at d txn ≡ Some t) × (txn_in_number (at_key (codes "no") t) ≡ Some n)

-- two transactions have a number
abbrev pub IsRepeated : Data → ℕ → Type 0
IsRepeated d n = (i j : ℕ) × (i < j) × IsNumber d i n × IsNumber d j n

-- an operation, counted from 1, of a transaction with a number has a text that spells no statement which a file of the version may have
abbrev pub IsBadStatement : FileVersion → Data → ℕ → ℕ → Type 0
IsBadStatement version d n number = (txn op : ℕ) × (o : Data) × (text : List ℕ) × IsNumber d txn n × (number ≡ op + 1) × (operation_at d txn op ≡ Some o)
    × (as_str (at_key (codes "statement") o) ≡ Some text) × ((s : Statement) → SpellsIn version text s → ⊥)

-- two neighbours of a list begin with rows of which the first isn't below the second
abbrev pub FallsSomewhere : FileVersion → Data → Type 0
FallsSomewhere version l = (index : ℕ) × (a b : Data) × (before after : Row) × (at index l ≡ Some a) × (at (index + 1) l ≡ Some b)
    × (row_of version a ≡ Some before) × (row_of version b ≡ Some after) × (is_lt (row_cmp before after) ≡ false)

-- the list at a path falls somewhere
abbrev pub IsUnsorted : FileVersion → Data → Path → Type 0
IsUnsorted version d p = (place : ListPlace) × (l : Data) × (p ≡ path.List place) × (list_at d place ≡ Some l) × FallsSomewhere version l

-- how many operations a transaction lists, and some transactions together
abbrev pub listed_ops : Option Items → ℕ
listed_ops None = 0
listed_ops (Some ds) = count ds

abbrev pub all_ops : Items → ℕ
all_ops no_items = 0
all_ops (item t ts) = listed_ops (as_array (at_key (codes "ops") t)) + all_ops ts

-- there is more of something than a file may have
abbrev pub IsOverLimit : Data → Limit → Type 0
IsOverLimit d limit.Bytes = ⊥
IsOverLimit d limit.Transactions = (ts : Items) × (at_key (codes "transactions") d ≡ array ts) × (max_transactions < count ts)
IsOverLimit d limit.Operations = (ts : Items) × (at_key (codes "transactions") d ≡ array ts) × (max_operations < all_ops ts)
IsOverLimit d limit.Tables = (h : History) × (parts_in d ≡ Ok h) × (max_tables < distinct_tables (named_tables h))
IsOverLimit d limit.Ids = (h : History) × (parts_in d ≡ Ok h) × (max_ids < distinct_rows (named_rows h))
IsOverLimit d limit.Entries = (h : History) × (parts_in d ≡ Ok h) × (max_entries < sum (map op_entries (operations h.txns)))
IsOverLimit d limit.Statement = ⊥

-- the fault is true of the value, taken for one of a version; none that comes from memory, from bytes or from a recording is
abbrev pub IsTrueIn : FileVersion → Data → FileFault → Type 0
IsTrueIn version d fault.NoMemory = ⊥
IsTrueIn version d fault.NotJson = ⊥
IsTrueIn version d (fault.WrongFormat p) = IsWrong version d p
IsTrueIn version d (fault.WrongVersion n) = (number_said d ≡ Some n) × (n ≢ 1) × (n ≢ 2)
IsTrueIn version d (fault.RepeatedTxn n) = IsRepeated d n
IsTrueIn version d (fault.BadStatement n number) = IsBadStatement version d n number
IsTrueIn version d (fault.Unsorted p) = IsUnsorted version d p
IsTrueIn version d (fault.OverLimit which) = IsOverLimit d which

-- the fault is true of the value as one of the version that it says
abbrev pub IsTrueFault : Data → FileFault → Type 0
IsTrueFault d f = IsTrueIn (version_said d) d f
