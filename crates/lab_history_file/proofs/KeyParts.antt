-- Where the parts of a member stand.
use Rattle.std.proofs.Common.{◌≡◌, ℕ, zero, suc, ◌+◌, ◌==◌, true, Option, Some, None, is_some, refl, subst}
use Rattle.serde_json.specs.{Data.{Data, array, Items, item}, Find.{at, get_item}}
use Rattle.lab_table.specs.Row.{Row}
use Rattle.lab_history_file.specs.{Entries.{op_in_number}, Member.{Key, plain, full, with_key, key_parts, id_in, table_in, plain_row, full_row, row_in, row_of}, PlaceShape.{second_fits, behind_fits, part_fits}, declared.file_version.FileVersion.{FileVersion, TheVariants.{One, Two}}}
use Rattle.lab_history.specs.declared.path.ListPlace.{ListPlace}

-- ---- behind a key

-- the first part behind it, and the second
pub first_behind : (version : FileVersion) (key : Key) (row : Row) (v : Data) (rest : Items) → row_in version key ≡ Some row → at (key_parts version) (array (with_key key (item v rest))) ≡ Some v
first_behind One (plain a) row v rest e = refl
first_behind One (full a b) row v rest e = absurd cc
first_behind Two (plain a) row v rest e = absurd cc
first_behind Two (full a b) row v rest e = refl

pub second_behind : (version : FileVersion) (key : Key) (row : Row) (u v : Data) (rest : Items) → row_in version key ≡ Some row
    → at (key_parts version + 1) (array (with_key key (item u (item v rest)))) ≡ Some v
second_behind One (plain a) row u v rest e = refl
second_behind One (full a b) row u v rest e = absurd cc
second_behind Two (plain a) row u v rest e = absurd cc
second_behind Two (full a b) row u v rest e = refl

-- what may stand there
pub first_fits : (version : FileVersion) (place : ListPlace) (v : Data) → part_fits version place (key_parts version) v ≡ second_fits place v
first_fits One place v = refl
first_fits Two place v = refl

pub last_fits : (version : FileVersion) (place : ListPlace) (v : Data) → part_fits version place (key_parts version + 1) v ≡ is_some (op_in_number v)
last_fits One place v = refl
last_fits Two place v = refl

pub own_part : (version : FileVersion) → (key_parts version == key_parts version) ≡ true
own_part One = refl
own_part Two = refl

-- ---- members with a key

-- a member with a key begins with its row
pub key_begins : (version : FileVersion) (key : Key) (row : Row) (rest : Items) → row_in version key ≡ Some row → row_of version (array (with_key key rest)) ≡ Some row
key_begins One (plain a) row rest e = e
key_begins One (full a b) row rest e = absurd cc
key_begins Two (plain a) row rest e = absurd cc
key_begins Two (full a b) row rest e = e

-- the parts of a key are there
id_there : (id : Option ℕ) (row : Row) → plain_row id ≡ Some row → is_some id ≡ true
id_there None row e = absurd cc
id_there (Some n) row e = refl

both_there : (table : Option _) (id : Option ℕ) (row : Row) → full_row table id ≡ Some row → (is_some table ≡ true) × (is_some id ≡ true)
both_there None id row e = absurd cc
both_there (Some name) None row e = absurd cc
both_there (Some name) (Some n) row e = (refl, refl)

-- each part of a member fits, where those behind its key do
pub parts_fit : (version : FileVersion) (place : ListPlace) (key : Key) (row : Row) (rest : Items) (part : ℕ) (u : Data) → row_in version key ≡ Some row
    → ((n : ℕ) (v : Data) → get_item n rest ≡ Some v → behind_fits place n v ≡ true) → at part (array (with_key key rest)) ≡ Some u → part_fits version place part u ≡ true
parts_fit One place (plain a) row rest zero u first others e = let same : a ≡ u = cc in subst (λ v. is_some (id_in v) ≡ true) same (id_there (id_in a) row first)
parts_fit One place (plain a) row rest (suc part) u first others e = others part u e
parts_fit One place (full a b) row rest part u first others e = absurd cc
parts_fit Two place (plain a) row rest part u first others e = absurd cc
parts_fit Two place (full a b) row rest zero u first others e =
    let same : a ≡ u = cc in subst (λ v. is_some (table_in v) ≡ true) same (both_there (table_in a) (id_in b) row first).0
parts_fit Two place (full a b) row rest (suc zero) u first others e =
    let same : b ≡ u = cc in subst (λ v. is_some (id_in v) ≡ true) same (both_there (table_in a) (id_in b) row first).1
parts_fit Two place (full a b) row rest (suc (suc part)) u first others e = others part u e
