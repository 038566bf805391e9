-- Places in a history file are spelled in ASCII.
use Rattle.std.{proofs.{Common.{ℕ, ◌<◌, ◌^◌, ◌++◌, refl}, lemmas.{Fmt.{IsAscii-decimal}, Str.{IsUtf8-from_ascii}}}, specs.Prelude.{IsAscii, IsUtf8, codes, decimal, ⊤}}
use Rattle.lab_history.specs.{PathText.{index_text, txn_text, op_text, list_text, path_text}, declared.path.{Path.{Path}, ListPlace.{ListPlace}}}
use Rattle.lab_history.specs.declared.path.Path.TheVariants as path
use Rattle.lab_history.specs.declared.path.ListPlace.TheVariants as list
use Rattle.lab_reports.proofs.AsciiTexts.{ascii_by, joined}

-- the numbers of a place are those of the code
abbrev pub ListFits : ListPlace → Type 0
ListFits list.Initial = ⊤
ListFits list.End = ⊤
ListFits list.Installed = ⊤
ListFits (list.View txn op) = (txn < 2 ^ 64) × (op < 2 ^ 64)
ListFits (list.Rows txn op) = (txn < 2 ^ 64) × (op < 2 ^ 64)
ListFits (list.Writes txn op) = (txn < 2 ^ 64) × (op < 2 ^ 64)

abbrev pub PathFits : Path → Type 0
PathFits path.Root = ⊤
PathFits path.Format = ⊤
PathFits path.Version = ⊤
PathFits (path.List place) = ListFits place
PathFits (path.Member place index) = ListFits place × (index < 2 ^ 64)
PathFits (path.Part place index part) = ListFits place × (index < 2 ^ 64) × (part < 2 ^ 64)
PathFits (path.Installer index part at) = (index < 2 ^ 64) × (part < 2 ^ 64) × (at < 2 ^ 64)
PathFits path.Transactions = ⊤
PathFits (path.Transaction txn) = txn < 2 ^ 64
PathFits (path.Number txn) = txn < 2 ^ 64
PathFits (path.Outcome txn) = txn < 2 ^ 64
PathFits (path.Operations txn) = txn < 2 ^ 64
PathFits (path.Operation txn op) = (txn < 2 ^ 64) × (op < 2 ^ 64)
PathFits (path.Statement txn op) = (txn < 2 ^ 64) × (op < 2 ^ 64)

-- ---- the parts of a place

index_ascii : (index : ℕ) → index < 2 ^ 64 → IsAscii (index_text index)
index_ascii index fits = joined (codes "/") (decimal index) (ascii_by (codes "/") refl) (IsAscii-decimal index fits)

txn_ascii : (txn : ℕ) → txn < 2 ^ 64 → IsAscii (txn_text txn)
txn_ascii txn fits = joined (codes "/transactions") (index_text txn) (ascii_by (codes "/transactions") refl) (index_ascii txn fits)

op_ascii : (txn op : ℕ) → txn < 2 ^ 64 → op < 2 ^ 64 → IsAscii (op_text txn op)
op_ascii txn op t o = joined (txn_text txn ++ codes "/ops") (index_text op) (joined (txn_text txn) (codes "/ops") (txn_ascii txn t) (ascii_by (codes "/ops") refl)) (index_ascii op o)

list_ascii : (place : ListPlace) → ListFits place → IsAscii (list_text place)
list_ascii list.Initial fits = ascii_by (codes "/initial") refl
list_ascii list.End fits = ascii_by (codes "/end") refl
list_ascii list.Installed fits = ascii_by (codes "/installed") refl
list_ascii (list.View txn op) fits = joined (op_text txn op) (codes "/view") (op_ascii txn op fits.0 fits.1) (ascii_by (codes "/view") refl)
list_ascii (list.Rows txn op) fits = joined (op_text txn op) (codes "/rows") (op_ascii txn op fits.0 fits.1) (ascii_by (codes "/rows") refl)
list_ascii (list.Writes txn op) fits = joined (op_text txn op) (codes "/writes") (op_ascii txn op fits.0 fits.1) (ascii_by (codes "/writes") refl)

-- ---- a place

path_ascii : (p : Path) → PathFits p → IsAscii (path_text p)
path_ascii path.Root fits = ascii_by (codes "/") refl
path_ascii path.Format fits = ascii_by (codes "/format") refl
path_ascii path.Version fits = ascii_by (codes "/version") refl
path_ascii (path.List place) fits = list_ascii place fits
path_ascii (path.Member place index) fits = joined (list_text place) (index_text index) (list_ascii place fits.0) (index_ascii index fits.1)
path_ascii (path.Part place index part) fits =
    joined (list_text place ++ index_text index) (index_text part) (joined (list_text place) (index_text index) (list_ascii place fits.0) (index_ascii index fits.1)) (index_ascii part fits.2)
path_ascii (path.Installer index part at) fits =
    joined (codes "/installed" ++ index_text index ++ index_text part) (index_text at)
    (joined (codes "/installed" ++ index_text index) (index_text part)
    (joined (codes "/installed") (index_text index) (ascii_by (codes "/installed") refl) (index_ascii index fits.0)) (index_ascii part fits.1))
    (index_ascii at fits.2)
path_ascii path.Transactions fits = ascii_by (codes "/transactions") refl
path_ascii (path.Transaction txn) fits = txn_ascii txn fits
path_ascii (path.Number txn) fits = joined (txn_text txn) (codes "/no") (txn_ascii txn fits) (ascii_by (codes "/no") refl)
path_ascii (path.Outcome txn) fits = joined (txn_text txn) (codes "/outcome") (txn_ascii txn fits) (ascii_by (codes "/outcome") refl)
path_ascii (path.Operations txn) fits = joined (txn_text txn) (codes "/ops") (txn_ascii txn fits) (ascii_by (codes "/ops") refl)
path_ascii (path.Operation txn op) fits = op_ascii txn op fits.0 fits.1
path_ascii (path.Statement txn op) fits = joined (op_text txn op) (codes "/statement") (op_ascii txn op fits.0 fits.1) (ascii_by (codes "/statement") refl)

-- so they are UTF-8
pub path_is_utf8 : (p : Path) → PathFits p → IsUtf8 (path_text p)
path_is_utf8 p fits = IsUtf8-from_ascii (path_text p) (path_ascii p fits)
