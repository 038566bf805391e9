-- The value at a position of a history file.
use Rattle.std.specs.Prelude.{ℕ, ◌==◌, nat_lt, if◌then◌else◌, Option, Some, None, option_and_then, option_map, codes}
use Rattle.serde_json.specs.Data.{Data}
use Rattle.serde_json.specs.Find.{at}
use Rattle.lab_history_file.specs.Member.{key_parts}
use Rattle.lab_history_file.specs.PlaceShape.{parts_of}
use Rattle.lab_history_file.specs.Format.{at_key}
use Rattle.lab_history_file.specs.declared.file_version.FileVersion.{FileVersion}
use Rattle.lab_history.specs.declared.path.ListPlace.{ListPlace}
use Rattle.lab_history.specs.declared.path.ListPlace.TheVariants as list
use Rattle.lab_history.specs.declared.path.Path.{Path}
use Rattle.lab_history.specs.declared.path.Path.TheVariants as path

-- a transaction and an operation of one, counted from 0
abbrev pub txn_at : Data → ℕ → Option Data
txn_at d txn = at txn (at_key (codes "transactions") d)

abbrev pub operation_at : Data → ℕ → ℕ → Option Data
operation_at d txn op = option_and_then (λ t. at op (at_key (codes "ops") t)) (txn_at d txn)

-- a list whose members begin with a row
abbrev pub list_at : Data → ListPlace → Option Data
list_at d list.Initial = Some (at_key (codes "initial") d)
list_at d list.End = Some (at_key (codes "end") d)
list_at d list.Installed = Some (at_key (codes "installed") d)
list_at d (list.View txn op) = option_map (at_key (codes "view")) (operation_at d txn op)
list_at d (list.Rows txn op) = option_map (at_key (codes "rows")) (operation_at d txn op)
list_at d (list.Writes txn op) = option_map (at_key (codes "writes")) (operation_at d txn op)

-- the value at a path; null at a key that is missing, and nothing at a part that no member of the list has, or that is no list of installers
abbrev pub value_at : FileVersion → Data → Path → Option Data
value_at version d path.Root = Some d
value_at version d path.Format = Some (at_key (codes "format") d)
value_at version d path.Version = Some (at_key (codes "version") d)
value_at version d (path.List place) = list_at d place
value_at version d (path.Member place index) = option_and_then (at index) (list_at d place)
value_at version d (path.Part place index part) = if nat_lt part (parts_of version place) then option_and_then (at part) (option_and_then (at index) (list_at d place)) else None
value_at version d (path.Installer index part place) = if part == key_parts version then option_and_then (at place) (option_and_then (at part) (at index (at_key (codes "installed") d))) else None
value_at version d path.Transactions = Some (at_key (codes "transactions") d)
value_at version d (path.Transaction txn) = txn_at d txn
value_at version d (path.Number txn) = option_map (at_key (codes "no")) (txn_at d txn)
value_at version d (path.Outcome txn) = option_map (at_key (codes "outcome")) (txn_at d txn)
value_at version d (path.Operations txn) = option_map (at_key (codes "ops")) (txn_at d txn)
value_at version d (path.Operation txn op) = operation_at d txn op
value_at version d (path.Statement txn op) = option_map (at_key (codes "statement")) (operation_at d txn op)
