-- What may be at a position of a history file, whatever its own parts hold.
use Rattle.std.specs.Prelude.{ℕ, zero, suc, ◌+◌, Bool, true, false, Option, Some, None, is_some, option_and_then, List, codes}
use Rattle.std.specs.Str.{bytes_eq}
use Rattle.serde_json.specs.Data.{Data, Items, no_items, item}
use Rattle.serde_json.specs.Find.{as_number, as_u64, as_array, as_object, as_str}
use Rattle.lab_history_file.specs.Member.{key_parts, key_fits, has_size}
use Rattle.lab_history_file.specs.Entries.{txn_in_number, op_in_number, value_in, state_in}
use Rattle.lab_history_file.specs.Keys.{root_keys, txn_keys, op_keys}
use Rattle.lab_history_file.specs.Format.{has_keys, outcome_named}
use Rattle.lab_history_file.specs.declared.file_version.FileVersion.{FileVersion}
use Rattle.lab_history_file.specs.declared.file_version.FileVersion.TheVariants.{One, Two}
use Rattle.lab_history.specs.declared.path.ListPlace.{ListPlace}
use Rattle.lab_history.specs.declared.path.ListPlace.TheVariants as list
use Rattle.lab_history.specs.declared.path.Path.{Path}
use Rattle.lab_history.specs.declared.path.Path.TheVariants as path

-- how many parts a member of a list has behind its key
abbrev pub parts_behind : ListPlace → ℕ
parts_behind list.Initial = 1
parts_behind list.End = 1
parts_behind list.Installed = 1
parts_behind (list.View txn op) = 2
parts_behind (list.Rows txn op) = 1
parts_behind (list.Writes txn op) = 1

-- how many parts it has
abbrev pub parts_of : FileVersion → ListPlace → ℕ
parts_of version place = key_parts version + parts_behind place

-- whether there is a list with an item
abbrev pub has_items : Option Items → Bool
has_items None = false
has_items (Some no_items) = false
has_items (Some (item d ds)) = true

-- whether a value may be the first part behind a key
abbrev pub second_fits : ListPlace → Data → Bool
second_fits list.Initial v = is_some (value_in v)
second_fits list.End v = is_some (value_in v)
second_fits list.Installed v = has_items (as_array v)
second_fits (list.View txn op) v = is_some (txn_in_number v)
second_fits (list.Rows txn op) v = is_some (value_in v)
second_fits (list.Writes txn op) v = is_some (state_in v)

-- whether a value may be a part behind a key; a version alone has a second one, its operation
abbrev pub behind_fits : ListPlace → ℕ → Data → Bool
behind_fits place zero v = second_fits place v
behind_fits place (suc part) v = is_some (op_in_number v)

-- whether a value may be a part of a member
abbrev pub part_fits : FileVersion → ListPlace → ℕ → Data → Bool
part_fits One place zero v = key_fits One zero v
part_fits One place (suc part) v = behind_fits place part v
part_fits Two place zero v = key_fits Two zero v
part_fits Two place (suc zero) v = key_fits Two 1 v
part_fits Two place (suc (suc part)) v = behind_fits place part v

-- whether a text names the format
abbrev pub is_format : Option (List ℕ) → Bool
is_format None = false
is_format (Some text) = bytes_eq text (codes "hermitage-history")

-- whether a value may stand at a path, whatever stands in its own parts
abbrev pub fits : FileVersion → Path → Data → Bool
fits version path.Root v = has_keys root_keys (as_object v)
fits version path.Format v = is_format (as_str v)
fits version path.Version v = is_some (option_and_then as_u64 (as_number v))
fits version (path.List place) v = is_some (as_array v)
fits version (path.Member place index) v = has_size (parts_of version place) (as_array v)
fits version (path.Part place index part) v = part_fits version place part v
fits version (path.Installer index part at) v = is_some (txn_in_number v)
fits version path.Transactions v = is_some (as_array v)
fits version (path.Transaction txn) v = has_keys txn_keys (as_object v)
fits version (path.Number txn) v = is_some (txn_in_number v)
fits version (path.Outcome txn) v = is_some (option_and_then outcome_named (as_str v))
fits version (path.Operations txn) v = is_some (as_array v)
fits version (path.Operation txn op) v = has_keys op_keys (as_object v)
fits version (path.Statement txn op) v = is_some (as_str v)
