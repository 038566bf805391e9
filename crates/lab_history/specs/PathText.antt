-- Positions in a history file, spelled as JSON pointers, with the root as /.
--
-- Origin: JSON pointers: RFC 6901, except for the root.
use Rattle.std.specs.Prelude.{ℕ, List, ◌++◌, decimal, codes}
use Rattle.lab_history.specs.declared.path.Path.{Path}
use Rattle.lab_history.specs.declared.path.Path.TheVariants as path
use Rattle.lab_history.specs.declared.path.ListPlace.{ListPlace}
use Rattle.lab_history.specs.declared.path.ListPlace.TheVariants as list

-- a member of a list
abbrev pub index_text : ℕ → List ℕ
index_text index = codes "/" ++ decimal index

-- a transaction
abbrev pub txn_text : ℕ → List ℕ
txn_text txn = codes "/transactions" ++ index_text txn

-- an operation of a transaction
abbrev pub op_text : ℕ → ℕ → List ℕ
op_text txn op = txn_text txn ++ codes "/ops" ++ index_text op

-- a list whose members begin with a row
abbrev pub list_text : ListPlace → List ℕ
list_text list.Initial = codes "/initial"
list_text list.End = codes "/end"
list_text list.Installed = codes "/installed"
list_text (list.View txn op) = op_text txn op ++ codes "/view"
list_text (list.Rows txn op) = op_text txn op ++ codes "/rows"
list_text (list.Writes txn op) = op_text txn op ++ codes "/writes"

-- a place
abbrev pub path_text : Path → List ℕ
path_text path.Root = codes "/"
path_text path.Format = codes "/format"
path_text path.Version = codes "/version"
path_text (path.List place) = list_text place
path_text (path.Member place index) = list_text place ++ index_text index
path_text (path.Part place index part) = list_text place ++ index_text index ++ index_text part
path_text (path.Installer index part at) = codes "/installed" ++ index_text index ++ index_text part ++ index_text at
path_text path.Transactions = codes "/transactions"
path_text (path.Transaction txn) = txn_text txn
path_text (path.Number txn) = txn_text txn ++ codes "/no"
path_text (path.Outcome txn) = txn_text txn ++ codes "/outcome"
path_text (path.Operations txn) = txn_text txn ++ codes "/ops"
path_text (path.Operation txn op) = op_text txn op
path_text (path.Statement txn op) = op_text txn op ++ codes "/statement"
