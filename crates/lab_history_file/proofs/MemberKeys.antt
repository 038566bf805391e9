-- What a member is read as: its key, and what stands behind that.
use Rattle.std.proofs.Common.{◌≡◌, ℕ, ◌+◌, Bool, true, false, Option, Some, None, option_map, Ok, if◌then◌else◌, refl, ap, sym, ◌∙◌, arith, eqb-true, eq-eqb}
use Rattle.serde_json.specs.Data.{Data, Items, no_items, item}
use Rattle.lab_table.{specs.Row.{Row, in_test, numbered}, proofs.Tests.{mapped_some}}
use Rattle.lab_history.{specs.{Faults.{required}, declared.path.ListPlace.{ListPlace}}, proofs.Steps.{both_ok, both_some, step_on, required_ok, required_is, when_found}}
use Rattle.lab_history_file.specs.{Member.{Key, plain, full, with_key, key_parts, id_in, table_in, plain_row, full_row, row_in, plain_in, full_in, count, has_size, sized, split_key, member_in}, declared.file_version.FileVersion.{FileVersion, TheVariants.{One, Two}}}
use Rattle.lab_history.specs.declared.path.Path.TheVariants as path

-- ---- sizes

-- a list that has so many items
pub sized_some : (n : ℕ) (o : Option Items) (ds : Items) → sized n o ≡ Some ds → (o ≡ Some ds) × (count ds ≡ n)
sized_some n None ds e = absurd cc
sized_some n (Some es) ds e =
    let found = when_found (has_size n (Some es)) es ds e in
    (ap (λ x. Some x) found.1, ap count (sym found.1) ∙ eqb-true _ _ found.0)

pub sized_is : (n : ℕ) (ds : Items) → count ds ≡ n → sized n (Some ds) ≡ Some ds
sized_is n ds same = ap (λ (b : Bool). if b then Some ds else None) (eq-eqb _ n same)

pub sized_none : (n : ℕ) (o : Option Items) → sized n o ≡ None → has_size n o ≡ false
sized_none n None e = refl
sized_none n (Some ds) e = missed (has_size n (Some ds)) e
  where
    missed : (b : Bool) → (if b then Some ds else None) ≡ None → b ≡ false
    missed true e = absurd cc
    missed false e = refl

-- lists of one item, and of two
pub one_part : (ds : Items) → count ds ≡ 1 → (b : Data) × (ds ≡ item b no_items)
one_part no_items e = absurd (omega (arith, e))
one_part (item b no_items) e = (b, refl)
one_part (item b (item c ds)) e = absurd (omega (arith, e))

pub two_parts : (ds : Items) → count ds ≡ 2 → (b c : Data) × (ds ≡ item b (item c no_items))
two_parts no_items e = absurd (omega (arith, e))
two_parts (item b no_items) e = absurd (omega (arith, e))
two_parts (item b (item c no_items)) e = (b, c, refl)
two_parts (item b (item c (item u ds))) e = absurd (omega (arith, e))

-- a key takes its parts
pub key_count : (version : FileVersion) (key : Key) (row : Row) (rest : Items) → row_in version key ≡ Some row → count (with_key key rest) ≡ key_parts version + count rest
key_count One (plain a) row rest e = refl
key_count One (full a b) row rest e = absurd cc
key_count Two (plain a) row rest e = absurd cc
key_count Two (full a b) row rest e = omega arith

module _ (place : ListPlace) (i : ℕ) where
  -- ---- rows

  plain_read : (a : Data) (row : Row) → plain_in place i a ≡ Ok row → plain_row (id_in a) ≡ Some row
  plain_read a row e =
      let id = both_ok (required (path.Part place i 0) (id_in a)) _ row e in
      let same : in_test id.0 ≡ row = cc in
      ap (λ o. plain_row o) (required_ok _ _ _ id.1) ∙ ap (λ r. Some r) same

  plain_is_read : (a : Data) (row : Row) → plain_row (id_in a) ≡ Some row → plain_in place i a ≡ Ok row
  plain_is_read a row e = let id = mapped_some in_test (id_in a) row e in step_on _ (required_is (path.Part place i 0) id.1) (ap (λ r. Ok r) id.2)

  full_read : (a b : Data) (row : Row) → full_in place i a b ≡ Ok row → full_row (table_in a) (id_in b) ≡ Some row
  full_read a b row e =
      let name = both_ok (required (path.Part place i 0) (table_in a)) _ row e in
      let id = both_ok (required (path.Part place i 1) (id_in b)) _ row name.2 in
      let same : numbered name.0 id.0 ≡ row = cc in
      ap (λ o. full_row o (id_in b)) (required_ok _ _ _ name.1) ∙ ap (λ o. option_map (numbered name.0) o) (required_ok _ _ _ id.1) ∙ ap (λ r. Some r) same

  full_is_read : (a b : Data) (row : Row) → full_row (table_in a) (id_in b) ≡ Some row → full_in place i a b ≡ Ok row
  full_is_read a b row e =
      let name = both_some (table_in a) (λ name. option_map (numbered name) (id_in b)) row e in
      let id = mapped_some (numbered name.0) (id_in b) row name.2 in
      step_on _ (required_is (path.Part place i 0) name.1) (step_on _ (required_is (path.Part place i 1) id.1) (ap (λ r. Ok r) id.2))

  -- ---- keys

  -- what begins with a key of a row, behind which stands the rest
  abbrev Begins : FileVersion → Items → Row × Items → Type 0
  Begins version ds split = (key : Key) × (ds ≡ with_key key split.1) × (row_in version key ≡ Some split.0)

  key_read : (version : FileVersion) (ds : Items) (split : Row × Items) → split_key version place i ds ≡ Ok split → Begins version ds split
  key_read One no_items split e = absurd cc
  key_read One (item a rest) split e =
      let row = both_ok (plain_in place i a) _ split e in
      let same : (row.0, rest) ≡ split = cc in
      (plain a, ap (λ (s : Row × Items). item a s.1) same, plain_read a row.0 row.1 ∙ ap (λ (s : Row × Items). Some s.0) same)
  key_read Two no_items split e = absurd cc
  key_read Two (item a no_items) split e = absurd cc
  key_read Two (item a (item b rest)) split e =
      let row = both_ok (full_in place i a b) _ split e in
      let same : (row.0, rest) ≡ split = cc in
      (full a b, ap (λ (s : Row × Items). item a (item b s.1)) same, full_read a b row.0 row.1 ∙ ap (λ (s : Row × Items). Some s.0) same)

  key_is_read : (version : FileVersion) (key : Key) (row : Row) (rest : Items) → row_in version key ≡ Some row → split_key version place i (with_key key rest) ≡ Ok (row, rest)
  key_is_read One (plain a) row rest e = step_on _ (plain_is_read a row e) refl
  key_is_read One (full a b) row rest e = absurd cc
  key_is_read Two (plain a) row rest e = absurd cc
  key_is_read Two (full a b) row rest e = step_on _ (full_is_read a b row e) refl

  -- ---- members

  -- a member that is read has a key, and as many parts behind it as there have to be
  pub member_begins : (n : ℕ) (version : FileVersion) (o : Option Items) (split : Row × Items) → member_in n version place i o ≡ Ok split
      → (key : Key) × (o ≡ Some (with_key key split.1)) × (row_in version key ≡ Some split.0) × (count split.1 ≡ n)
  member_begins n version o split e =
      let found = both_ok (required (path.Member place i) (sized (key_parts version + n) o)) _ split e in
      let whole = sized_some _ o found.0 (required_ok _ _ _ found.1) in
      let begins = key_read version found.0 split found.2 in
      let size = key_count version begins.0 split.0 split.1 begins.2 in
      let all = ap count (sym begins.1) ∙ whole.1 in
      (begins.0, whole.0 ∙ ap (λ ds. Some ds) begins.1, begins.2, omega (arith, size, all))

  -- and one that has, is read so
  pub member_with : (n : ℕ) (version : FileVersion) (key : Key) (row : Row) (rest : Items) → row_in version key ≡ Some row → count rest ≡ n
      → member_in n version place i (Some (with_key key rest)) ≡ Ok (row, rest)
  member_with n version key row rest e size =
      step_on _ (required_is (path.Member place i) (sized_is _ (with_key key rest) (key_count version key row rest e ∙ ap (λ n. key_parts version + n) size))) (key_is_read version key row rest e)
