-- The JSON value of a history's file: keys in the order of their bytes, lists by rising row, statements in printed
-- form.
--
-- Origin: JSON: RFC 8259; the format is this project's profile.
use Rattle.std.specs.Prelude.{ℕ, ℤ, List, [], ◌∷◌, map, Option, Some, None, codes}
use Rattle.std.specs.FinMap as finite
use Rattle.std.specs.FinMap.{FinMap}
use Rattle.serde_json.specs.Data.{Data, null, number, unsigned, string, array, Items, no_items, item}
use Rattle.serde_json.specs.Find.{of_integer}
use Rattle.serde_json.specs.View.{items_of}
use Rattle.lab_table.specs.Row.{Row, row_cmp}
use Rattle.lab_printing.specs.Printed.{printed_statement}
use Rattle.lab_history_file.specs.Keys.{root_keys, txn_keys, op_keys, object_with}
use Rattle.lab_history_file.specs.Member.{key_tree, with_key}
use Rattle.lab_history_file.specs.FileOf.{outcome_text}
use Rattle.lab_history.specs.History.{History}
use Rattle.lab_history.specs.VersionName.{state_value}
use Rattle.lab_history.specs.declared.operation.State.{State}
use Rattle.lab_history.specs.declared.operation.Op.{Op}
use Rattle.lab_history.specs.declared.operation.VersionName.{VersionName}
use Rattle.lab_history.specs.declared.operation.VersionName.TheVariants.{Initial, Of}
use Rattle.lab_history.specs.declared.transaction.Txn.{Txn}

-- ---- numbers and lists

-- the number of a transaction or of an operation
abbrev pub natural_tree : ℕ → Data
natural_tree n = number (unsigned n)

-- a value
abbrev pub value_tree : ℤ → Data
value_tree z = number (of_integer z)

-- what is written to a row: null where it is absent then
abbrev pub written_tree : Option ℤ → Data
written_tree None = null
written_tree (Some z) = value_tree z

abbrev pub state_tree : State → Data
state_tree s = written_tree (state_value s)

-- a list of these
abbrev pub list_tree : {X : Type 0} → (X → Data) → List X → Data
list_tree tree xs = array (items_of (map tree xs))

-- [key, x]
abbrev pub pair_tree : {X : Type 0} → (X → Data) → Row × X → Data
pair_tree tree entry = array (with_key (key_tree entry.0) (item (tree entry.1) no_items))

-- a finite map as a list of pairs, by rising row
abbrev pub map_tree : {X : Type 0} → (X → Data) → FinMap row_cmp X → Data
map_tree tree m = list_tree (pair_tree tree) (finite.entries m)

-- ---- operations and transactions

-- what stands behind the key of a version: txn, op; an initial one isn't listed
abbrev pub version_parts : VersionName → Items
version_parts Initial = no_items
version_parts (Of txn op) = item (natural_tree txn) (item (natural_tree op) no_items)

-- [key, txn, op]
abbrev pub version_tree : Row × VersionName → Data
version_tree entry = array (with_key (key_tree entry.0) (version_parts entry.1))

-- the versions that were seen
abbrev pub view_tree : FinMap row_cmp VersionName → Data
view_tree m = list_tree version_tree (finite.entries m)

-- {rows, statement, view, writes}
abbrev pub op_tree : Op → Data
op_tree op = object_with op_keys (map_tree value_tree op.rows ∷ string (printed_statement op.statement) ∷ view_tree op.view ∷ map_tree written_tree op.writes ∷ [])

-- {no, ops, outcome}
abbrev pub txn_tree : Txn → Data
txn_tree txn = object_with txn_keys (natural_tree txn.no ∷ list_tree op_tree txn.ops ∷ string (outcome_text txn.outcome) ∷ [])

-- ---- the whole

-- {end, format, initial, installed, transactions, version}
abbrev pub tree_of : History → Data
tree_of h = object_with root_keys (
    map_tree value_tree h.end_table
    ∷ string (codes "hermitage-history")
    ∷ map_tree value_tree h.initial
    ∷ map_tree (list_tree natural_tree) h.installed
    ∷ list_tree txn_tree h.txns
    ∷ natural_tree 2
    ∷ [])
