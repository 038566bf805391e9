-- The numbers of a history file, and its lists whose members begin with a row.
use Rattle.std.specs.Prelude.{ℕ, ◌+◌, ◌&&◌, ℤ, int_le, pos, negsuc, List, [], ◌∷◌, ◌++◌, Option, Some, None, option_and_then, option_map, Result, Ok, Err, if◌then◌else◌}
use Rattle.serde_json.specs.Data.{Data, null, boolean, number, string, array, object, Items, no_items, item}
use Rattle.serde_json.specs.Find.{as_number, as_i64, as_array, get_item}
use Rattle.lab_table.specs.Row.{Row}
use Rattle.lab_history.specs.RowOrder.{follows}
use Rattle.lab_history.specs.Faults.{◌>>=◌, required}
use Rattle.lab_history.specs.Limits.{max_operations}
use Rattle.lab_history_file.specs.Whole.{whole_in}
use Rattle.lab_history_file.specs.Member.{key_parts, member_in}
use Rattle.lab_history.specs.declared.fault.FileFault.{FileFault}
use Rattle.lab_history.specs.declared.fault.FileFault.TheVariants as fault
use Rattle.lab_history_file.specs.declared.file_version.FileVersion.{FileVersion}
use Rattle.lab_history.specs.declared.path.Path.TheVariants as path
use Rattle.lab_history.specs.declared.path.ListPlace.{ListPlace}
use Rattle.lab_history.specs.declared.path.ListPlace.TheVariants as list
use Rattle.lab_history.specs.declared.operation.VersionName.{VersionName}
use Rattle.lab_history.specs.declared.operation.VersionName.TheVariants.{Of}
use Rattle.lab_history.specs.VersionName.{state_value}
use Rattle.lab_history.specs.declared.operation.State.{State}
use Rattle.lab_history.specs.declared.operation.State.TheVariants.{Absent, Present}

-- ---- numbers

-- a transaction's number
abbrev pub txn_in_number : Data → Option ℕ
txn_in_number d = whole_in 1 1000000 d

-- an operation's number in its transaction
abbrev pub op_in_number : Data → Option ℕ
op_in_number d = whole_in 1 max_operations d

-- a value
abbrev pub value_in : Data → Option ℤ
value_in d = option_and_then (λ z. if int_le (negsuc 999999999) z && int_le z (pos 1000000000) then Some z else None) (option_and_then as_i64 (as_number d))

-- what is written to a row: a value, or null for an absent row
abbrev pub state_in : Data → Option State
state_in null = Some Absent
state_in (boolean b) = None
state_in (number n) = option_map Present (value_in (number n))
state_in (string s) = None
state_in (array ds) = None
state_in (object ms) = None

-- the same as an option: the value, or none
abbrev pub written_in : Data → Option (Option ℤ)
written_in d = option_map state_value (state_in d)

-- ---- lists

-- the items of a list, the first of which has this index after those before: each is read with those before it
abbrev pub items_from : {X : Type 0} → (List X → ℕ → Data → Result X FileFault) → List X → ℕ → Items → Result (List X) FileFault
items_from read before index no_items = Ok before
items_from read before index (item d ds) = read before index d >>= λ x. items_from read (before ++ x ∷ []) (index + 1) ds

-- ---- lists whose members begin with a row

-- the row of the last entry
abbrev pub last_row : {X : Type 0} → List (Row × X) → Option Row
last_row [] = None
last_row (e ∷ []) = Some e.0
last_row (e ∷ f ∷ es) = last_row (f ∷ es)

-- an entry after others: it is read, and then its row is checked
abbrev pub placed_in : {X : Type 0} → (ℕ → Data → Result (Row × X) FileFault) → ListPlace → List (Row × X) → ℕ → Data → Result (Row × X) FileFault
placed_in read place before index d = read index d >>= λ entry. if follows (last_row before) entry.0 then Ok entry else Err (fault.Unsorted (path.List place))

-- a list whose rows rise strictly
abbrev pub entries_in : {X : Type 0} → (ℕ → Data → Result (Row × X) FileFault) → ListPlace → Data → Result (List (Row × X)) FileFault
entries_in read place d = required (path.List place) (as_array d) >>= items_from (placed_in read place) [] 0

-- [key, ..]: the row of a member with so many parts after its key, and what they are read as
abbrev pub entry_in : {X : Type 0} → ℕ → (FileVersion → ListPlace → ℕ → Items → Result X FileFault) → FileVersion → ListPlace → ℕ → Data → Result (Row × X) FileFault
entry_in n read version place index d =
    member_in n version place index (as_array d) >>= λ split.
    read version place index split.1 >>= λ x.
    Ok (split.0, x)

-- x
abbrev pub one_in : {X : Type 0} → (Data → Option X) → FileVersion → ListPlace → ℕ → Items → Result X FileFault
one_in read version place index behind = required (path.Part place index (key_parts version)) (option_and_then read (get_item 0 behind))

-- txn, op
abbrev pub version_name_in : FileVersion → ListPlace → ℕ → Items → Result VersionName FileFault
version_name_in version place index behind =
    required (path.Part place index (key_parts version)) (option_and_then txn_in_number (get_item 0 behind)) >>= λ txn.
    required (path.Part place index (key_parts version + 1)) (option_and_then op_in_number (get_item 1 behind)) >>= λ op.
    Ok (Of txn op)

-- an installer of a row after others; they are a part of a member
abbrev pub installer_in : ℕ → ℕ → List ℕ → ℕ → Data → Result ℕ FileFault
installer_in index part before at d = required (path.Installer index part at) (txn_in_number d)

-- [txn, ..], with at least one
abbrev pub installers_of : ℕ → ℕ → Option Items → Result (List ℕ) FileFault
installers_of index part None = Err (fault.WrongFormat (path.Part list.Installed index part))
installers_of index part (Some no_items) = Err (fault.WrongFormat (path.Part list.Installed index part))
installers_of index part (Some (item d ds)) = items_from (installer_in index part) [] 0 (item d ds)

-- the same of the part after a member's key
abbrev pub installers_in : FileVersion → ListPlace → ℕ → Items → Result (List ℕ) FileFault
installers_in version place index behind = installers_of index (key_parts version) (option_and_then as_array (get_item 0 behind))

-- rows with their values
abbrev pub values_in : FileVersion → ListPlace → Data → Result (List (Row × ℤ)) FileFault
values_in version place d = entries_in (entry_in 1 (one_in value_in) version place) place d

-- rows with the states that were written
abbrev pub writes_in : FileVersion → ListPlace → Data → Result (List (Row × State)) FileFault
writes_in version place d = entries_in (entry_in 1 (one_in state_in) version place) place d

-- rows with the versions that were seen
abbrev pub view_in : FileVersion → ListPlace → Data → Result (List (Row × VersionName)) FileFault
view_in version place d = entries_in (entry_in 2 version_name_in version place) place d

-- rows with those who installed them
abbrev pub installed_in : FileVersion → Data → Result (List (Row × List ℕ)) FileFault
installed_in version d = entries_in (entry_in 1 installers_in version list.Installed) list.Installed d
