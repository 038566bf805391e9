-- The keys of the format are those that are read, and so are the states.
use Rattle.std.{proofs.Common.{◌≡◌, Bool, true, List, [], ◌∷◌, ◌++◌, Option, Some, None, option_map, if◌then◌else◌, refl, sym, ap, subst, ◌∙◌}, specs.Prelude.{ℕ, ℤ}}
use Rattle.serde_json.specs.{Data.{Data, null, boolean, number, string, array, object, Items}, Find.{as_str}, View.{items_of}}
use Rattle.lab_table.{specs.{Row.{Row, in_test, numbered}, TableName.{is_table_name}}, proofs.Tests.{mapped_some}}
use Rattle.lab_history.{proofs.Steps.{both_some, when_found}, specs.{VersionName.{state_value}, declared.operation.State.TheVariants.{Present}}}
use Rattle.lab_history_file.specs.{Member.{Key, plain, full, with_key, id_in, name_in, table_in, plain_row, full_row, row_in}, Entries.{value_in, state_in, written_in}, FileOf.{IsKey, BeginsWith, IsState}, declared.file_version.FileVersion.{FileVersion, TheVariants.{One, Two}}}
use Rattle.lab_history_file.proofs.JsonShapes.{string_of}

-- the rows of an id, and of a name and an id
full_named : (name : Option (List ℕ)) (id : Option ℕ) (row : Row) → name ≡ Some row.table → id ≡ Some row.id → full_row name id ≡ Some row
full_named name id row named is = ap (λ (o : Option (List ℕ)). full_row o id) named ∙ ap (λ (o : Option ℕ). full_row (Some row.table) o) is

-- a key of the format is one that is read
key_read : (version : FileVersion) (row : Row) (key : List Data) → IsKey version row key → (k : Key) × (row_in version k ≡ Some row) × ((behind : List Data) → items_of (key ++ behind) ≡ with_key k (items_of behind))
key_read One row key (id, is, test, there) = (
  plain id,
  ap plain_row there ∙ ap (λ (name : List ℕ). Some (numbered name row.id)) (sym test),
  λ behind. ap (λ (ds : List Data). items_of (ds ++ behind)) is,
)
key_read Two row key (id, is, named, there) = (
  full (string row.table) id,
  full_named (table_in (string row.table)) (id_in id) row (ap (λ (b : Bool). if b then Some row.table else None) named) there,
  λ behind. ap (λ (ds : List Data). items_of (ds ++ behind)) is,
)

-- and one that is read is one of the format
key_is : (version : FileVersion) (k : Key) (row : Row) → row_in version k ≡ Some row → (key : List Data) × IsKey version row key × ((behind : List Data) → items_of (key ++ behind) ≡ with_key k (items_of behind))
key_is One (plain id) row e =
    let found = mapped_some in_test (id_in id) row e in
    (id ∷ [], (id, refl, sym (ap (λ (r : Row). r.table) found.2), found.1 ∙ ap (λ (r : Row). Some r.id) found.2), λ behind. refl)
key_is One (full table id) row e = absurd cc
key_is Two (plain id) row e = absurd cc
key_is Two (full table id) row e =
    let name = both_some (table_in table) (λ name. option_map (numbered name) (id_in id)) row e in
    let id_is = mapped_some (numbered name.0) (id_in id) row name.2 in
    let text = both_some (as_str table) name_in name.0 name.1 in
    let tested = when_found (is_table_name text.0) text.0 name.0 text.2 in
    let same : text.0 ≡ row.table = tested.1 ∙ ap (λ (r : Row). r.table) id_is.2 in
    let spelled : table ≡ string row.table = string_of table text.0 text.1 ∙ ap (λ (t : List ℕ). string t) same in (
      table ∷ id ∷ [],
      (id, ap (λ (d : Data). d ∷ id ∷ []) spelled, subst (λ t. is_table_name t ≡ true) same tested.0, id_is.1 ∙ ap (λ (r : Row). Some r.id) id_is.2),
      λ behind. refl,
    )

module _ (version : FileVersion) (row : Row) (behind : List Data) (d : Data) where
  pub begins_with : BeginsWith version row behind d → (k : Key) × (d ≡ array (with_key k (items_of behind))) × (row_in version k ≡ Some row)
  begins_with (key, is, tree) = let k = key_read version row key is in (k.0, tree ∙ ap (λ (ds : Items). array ds) (k.2 behind), k.1)

  pub with_begins : (k : Key) → d ≡ array (with_key k (items_of behind)) → row_in version k ≡ Some row → BeginsWith version row behind d
  with_begins k tree read = let key = key_is version k row read in (key.0, key.1, tree ∙ ap (λ (ds : Items). array ds) (sym (key.2 behind)))

-- states of rows
pub state_is : (d : Data) (state : Option ℤ) → written_in d ≡ Some state → IsState d state
state_is null state e = let same : None ≡ state = cc in subst (IsState null) same refl
state_is (number n) state e =
    let found = mapped_some state_value (state_in (number n)) state e in
    let value = mapped_some Present (value_in (number n)) found.0 found.1 in
    subst (IsState (number n)) (ap state_value value.2 ∙ found.2) value.1
state_is (boolean b) state e = absurd cc
state_is (string s) state e = absurd cc
state_is (array ds) state e = absurd cc
state_is (object ms) state e = absurd cc

pub state_read : (d : Data) (state : Option ℤ) → IsState d state → written_in d ≡ Some state
state_read d None is = ap written_in is
state_read null (Some value) is = absurd cc
state_read (number n) (Some value) is = ap (λ (o : Option ℤ). option_map state_value (option_map Present o)) is
state_read (boolean b) (Some value) is = absurd cc
state_read (string s) (Some value) is = absurd cc
state_read (array ds) (Some value) is = absurd cc
state_read (object ms) (Some value) is = absurd cc
