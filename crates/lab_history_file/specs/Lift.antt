-- A version 1 file as a version 2 file: the table `test` is written before each id.
use Rattle.std.specs.Prelude.{ℕ, List, if◌then◌else◌, codes}
use Rattle.std.specs.Str.{bytes_eq}
use Rattle.serde_json.specs.Data.{Data, null, boolean, number, unsigned, string, array, object, Items, no_items, item, Members, no_members, member}
use Rattle.lab_table.specs.TableName.{test_name}

-- each item of a list so changed; another value stays
abbrev pub each_item : (Data → Data) → Items → Items
each_item change no_items = no_items
each_item change (item d ds) = item (change d) (each_item change ds)

abbrev pub in_list : (Data → Data) → Data → Data
in_list change null = null
in_list change (boolean b) = boolean b
in_list change (number n) = number n
in_list change (string s) = string s
in_list change (array ds) = array (each_item change ds)
in_list change (object ms) = object ms

-- the value at each key of an object so changed; another value stays
abbrev pub each_member : (List ℕ → Data → Data) → Members → Members
each_member change no_members = no_members
each_member change (member key d ms) = member key (change key d) (each_member change ms)

abbrev pub in_object : (List ℕ → Data → Data) → Data → Data
in_object change null = null
in_object change (boolean b) = boolean b
in_object change (number n) = number n
in_object change (string s) = string s
in_object change (array ds) = array ds
in_object change (object ms) = object (each_member change ms)

-- `test` in front of the id that a member of a list begins with
abbrev pub lift_member : Data → Data
lift_member null = null
lift_member (boolean b) = boolean b
lift_member (number n) = number n
lift_member (string s) = string s
lift_member (array ds) = array (item (string test_name) ds)
lift_member (object ms) = object ms

-- a list whose members begin with an id
abbrev pub lift_list : Data → Data
lift_list d = in_list lift_member d

-- an operation: all its lists are such
abbrev pub lift_op : Data → Data
lift_op d = in_object (λ key. lift_list) d

-- a transaction: its one list is that of its operations
abbrev pub lift_txn : Data → Data
lift_txn d = in_object (λ key. in_list lift_op) d

-- the whole, by its keys: the version is 2, and all lists but that of the transactions have members that begin with an id
abbrev pub lift_at : List ℕ → Data → Data
lift_at key d =
    if bytes_eq key (codes "version") then number (unsigned 2)
    else if bytes_eq key (codes "transactions") then in_list lift_txn d
    else lift_list d

abbrev pub lift : Data → Data
lift d = in_object lift_at d
