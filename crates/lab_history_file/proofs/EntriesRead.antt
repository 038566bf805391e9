-- The lists of a history file are read as the maps that they stand for, and as nothing else.
use Rattle.std.{proofs.Common.{◌≡◌, ◌≢◌, ℕ, ◌+◌, ℤ, T, List, [], ◌∷◌, Option, Some, None, Result, Ok, refl, sym, ap, subst, ◌∙◌}, specs.FinMap.{FinMap}}
use Rattle.std.specs.FinMap as finite
use Rattle.serde_json.specs.{Data.{Data, array, Items, no_items, item}, Find.{as_array}}
use Rattle.lab_table.specs.Row.{Row, row_cmp}
use Rattle.lab_history.specs.{Faults.{required}, declared.{fault.FileFault.{FileFault}, operation.{VersionName.{VersionName, TheVariants.{Of}}, State.{State}}, path.ListPlace.{ListPlace}}, VersionName.{new_states}}
use Rattle.lab_history_file.specs.Member.{Key, with_key, key_parts, row_in, count, member_in}
use Rattle.lab_history_file.specs.Entries.{txn_in_number, op_in_number, value_in, state_in, entry_in, one_in, version_name_in, installer_in, installers_of, installers_in, values_in, writes_in, view_in, installed_in}
use Rattle.lab_history_file.specs.FileOf.{AreEach, IsListOf, IsMapOf, IsPair, IsValue, IsState, IsVersion, IsInstalled}
use Rattle.lab_history_file.specs.declared.file_version.FileVersion.{FileVersion}
use Rattle.lab_history.specs.declared.path.ListPlace.TheVariants as list
use Rattle.lab_history.specs.declared.path.Path.TheVariants as path
use Rattle.lab_history.proofs.{Steps.{both_ok, step_on, required_ok, required_is}, NewStates.{new_states_sorted}}
use Rattle.lab_history_file.proofs.{JsonShapes.{array_of}, FileKeys.{begins_with, with_begins}, ItemsRead.{each_read, each_is_read}, MemberKeys.{one_part, two_parts, member_begins, member_with}, ListsRead.{entries_read, map_read, entries_are_read}, PlainWrites.{plain_writes, code_writes}}

-- ---- members

module _ {X : Type 0} (n : ℕ) (read : FileVersion → ListPlace → ℕ → Items → Result X FileFault) (version : FileVersion) (place : ListPlace) (i : ℕ) where
  -- a member that is read has a key of its row, and behind it so many parts, which are read
  pub entry_read : (d : Data) (x : Row × X) → entry_in n read version place i d ≡ Ok x
      → (key : Key) × (rest : Items) × (d ≡ array (with_key key rest)) × (row_in version key ≡ Some x.0) × (count rest ≡ n) × (read version place i rest ≡ Ok x.1)
  entry_read d x e =
      let split = both_ok (member_in n version place i (as_array d)) _ x e in
      let other = both_ok (read version place i split.0.1) _ x split.2 in
      let begins = member_begins place i n version (as_array d) split.0 split.1 in
      let same : (split.0.0, other.0) ≡ x = cc in (
        begins.0,
        split.0.1,
        array_of d _ begins.1,
        begins.2 ∙ ap (λ (y : Row × X). Some y.0) same,
        begins.3,
        other.1 ∙ ap (λ (y : Row × X). Ok y.1) same,
      )

  -- and one that has, is read
  entry_is_read : (d : Data) (x : Row × X) (key : Key) (rest : Items) → d ≡ array (with_key key rest) → row_in version key ≡ Some x.0 → count rest ≡ n → read version place i rest ≡ Ok x.1
      → entry_in n read version place i d ≡ Ok x
  entry_is_read d x key rest is row size e = step_on _ (ap (λ t. member_in n version place i (as_array t)) is ∙ member_with place i n version key x.0 rest row size) (step_on _ e refl)

-- ---- [key, x]

-- what a value is read as
abbrev pub ReadsAs : {X : Type 0} → (Data → Option X) → Data → X → Type 0
ReadsAs read d x = read d ≡ Some x

module _ {X : Type 0} (read : Data → Option X) (version : FileVersion) (place : ListPlace) (i : ℕ) where
  pair_read : (d : Data) (x : Row × X) → entry_in 1 (one_in read) version place i d ≡ Ok x → IsPair version (ReadsAs read) d x
  pair_read d x e =
      let is = entry_read 1 (one_in read) version place i d x e in
      let one = one_part is.1 is.4 in
      (one.0, with_begins version x.0 (one.0 ∷ []) d is.0 (is.2 ∙ ap (λ ds. array (with_key is.0 ds)) one.1) is.3, required_ok _ _ _ (subst (λ ds. one_in read version place i ds ≡ Ok x.1) one.1 is.5))

  pair_is_read : (d : Data) (x : Row × X) → IsPair version (ReadsAs read) d x → entry_in 1 (one_in read) version place i d ≡ Ok x
  pair_is_read d x (one, begins, is) =
      let key = begins_with version x.0 (one ∷ []) d begins in
      entry_is_read 1 (one_in read) version place i d x key.0 _ key.1 key.2 refl (required_is _ is)

-- ---- [key, txn, op]

module _ (version : FileVersion) (place : ListPlace) (i : ℕ) where
  name_read : (b c : Data) (v : VersionName) → version_name_in version place i (item b (item c no_items)) ≡ Ok v
      → (txn op : ℕ) × (txn_in_number b ≡ Some txn) × (op_in_number c ≡ Some op) × (v ≡ Of txn op)
  name_read b c v e =
      let txn = both_ok (required (path.Part place i (key_parts version)) (txn_in_number b)) _ v e in
      let op = both_ok (required (path.Part place i (key_parts version + 1)) (op_in_number c)) _ v txn.2 in
      let same : Of txn.0 op.0 ≡ v = cc in
      (txn.0, op.0, required_ok _ _ _ txn.1, required_ok _ _ _ op.1, sym same)

  version_read : (d : Data) (x : Row × VersionName) → entry_in 2 version_name_in version place i d ≡ Ok x → IsVersion version d x
  version_read d x e =
      let is = entry_read 2 version_name_in version place i d x e in
      let two = two_parts is.1 is.4 in
      let name = name_read two.0 two.1 x.1 (subst (λ ds. version_name_in version place i ds ≡ Ok x.1) two.2 is.5) in
      (two.0, two.1, name.0, name.1, with_begins version x.0 (two.0 ∷ two.1 ∷ []) d is.0 (is.2 ∙ ap (λ ds. array (with_key is.0 ds)) two.2) is.3, name.2, name.3, name.4)

  version_is_read : (d : Data) (x : Row × VersionName) → IsVersion version d x → entry_in 2 version_name_in version place i d ≡ Ok x
  version_is_read d x (b, c, txn, op, begins, first, second, is) =
      let key = begins_with version x.0 (b ∷ c ∷ []) d begins in
      entry_is_read 2 version_name_in version place i d x key.0 _ key.1 key.2 refl
      (step_on _ (required_is (path.Part place i (key_parts version)) first)
      (step_on _ (required_is (path.Part place i (key_parts version + 1)) second) (ap (λ v. Ok v) (sym is))))

-- ---- [key, [txn, ..]]

abbrev IsInstaller : Data → ℕ → Type 0
IsInstaller e n = txn_in_number e ≡ Some n

some_installers : (d : Data) (ds : Items) (ns : List ℕ) → AreEach IsInstaller (item d ds) ns → ns ≢ []
some_installers d ds [] each e = each
some_installers d ds (n ∷ ns) each e = absurd cc

list_parts : (i part : ℕ) (o : Option Items) (ns : List ℕ) → installers_of i part o ≡ Ok ns → (ds : Items) × (o ≡ Some ds) × AreEach IsInstaller ds ns × (ns ≢ [])
list_parts i part None ns e = absurd cc
list_parts i part (Some no_items) ns e = absurd cc
list_parts i part (Some (item d ds)) ns e = let each = each_read (installer_in i part) IsInstaller (λ before at d n. required_ok (path.Installer i part at) (txn_in_number d) n) (item d ds) ns e in (item d ds, refl, each, some_installers d ds ns each)

list_is_read : (i part : ℕ) (ds : Items) (ns : List ℕ) → AreEach IsInstaller ds ns → ns ≢ [] → installers_of i part (Some ds) ≡ Ok ns
list_is_read i part no_items [] each some = absurd (some refl)
list_is_read i part no_items (n ∷ ns) each some = absurd each
list_is_read i part (item d ds) ns each some = each_is_read (installer_in i part) IsInstaller (λ before at d n. required_is (path.Installer i part at)) (item d ds) ns each

module _ (version : FileVersion) (place : ListPlace) (i : ℕ) where
  installed_read : (d : Data) (x : Row × List ℕ) → entry_in 1 installers_in version place i d ≡ Ok x → IsInstalled version d x
  installed_read d x e =
      let is = entry_read 1 installers_in version place i d x e in
      let one = one_part is.1 is.4 in
      let parts = list_parts i (key_parts version) (as_array one.0) x.1 (subst (λ ds. installers_in version place i ds ≡ Ok x.1) one.1 is.5) in
      ((one.0, with_begins version x.0 (one.0 ∷ []) d is.0 (is.2 ∙ ap (λ ds. array (with_key is.0 ds)) one.1) is.3, (parts.0, array_of one.0 parts.0 parts.1, parts.2)), parts.3)

  installed_is_read : (d : Data) (x : Row × List ℕ) → IsInstalled version d x → entry_in 1 installers_in version place i d ≡ Ok x
  installed_is_read d x ((one, begins, those), some) =
      let key = begins_with version x.0 (one ∷ []) d begins in
      entry_is_read 1 installers_in version place i d x key.0 _ key.1 key.2 refl
      (ap (λ e. installers_of i (key_parts version) (as_array e)) those.1 ∙ list_is_read i (key_parts version) those.0 x.1 those.2 some)

-- ---- the lists

module _ (version : FileVersion) (place : ListPlace) (d : Data) where
  pub values_read : (xs : List (Row × ℤ)) → values_in version place d ≡ Ok xs → IsMapOf (IsPair version IsValue) d (finite.from_sorted xs)
  values_read xs e = map_read _ place (IsPair version IsValue) (pair_read value_in version place) d xs e

  pub values_are_read : (m : FinMap row_cmp ℤ) → IsMapOf (IsPair version IsValue) d m → values_in version place d ≡ Ok (finite.entries m)
  values_are_read m is = entries_are_read _ place (IsPair version IsValue) (pair_is_read value_in version place) d (finite.entries m) is (finite.entries_sorted m)

  pub writes_read : (ws : List (Row × State)) → writes_in version place d ≡ Ok ws → IsMapOf (IsPair version IsState) d (finite.from_sorted (new_states ws))
  writes_read ws e =
      let found = entries_read _ place (IsPair version (ReadsAs state_in)) (pair_read state_in version place) d ws e in
      let is = found.0 in
      let rise = subst T (sym (new_states_sorted ws)) found.1 in
      subst (IsListOf (IsPair version IsState) d) (sym (finite.entries-from_sorted row_cmp (new_states ws) rise)) (is.0, is.1, plain_writes version is.0 ws is.2)

  pub writes_are_read : (m : FinMap row_cmp (Option ℤ)) → IsMapOf (IsPair version IsState) d m → (ws : List (Row × State)) × (writes_in version place d ≡ Ok ws) × (new_states ws ≡ finite.entries m)
  writes_are_read m is =
      let code = code_writes version is.0 (finite.entries m) is.2 in
      let rise = ap (finite.is_sorted row_cmp) (sym code.2) ∙ new_states_sorted code.0 in
      (code.0, entries_are_read _ place (IsPair version (ReadsAs state_in)) (pair_is_read state_in version place) d code.0 (is.0, is.1, code.1) (subst T rise (finite.entries_sorted m)), code.2)

  pub view_read : (xs : List (Row × VersionName)) → view_in version place d ≡ Ok xs → IsMapOf (IsVersion version) d (finite.from_sorted xs)
  view_read xs e = map_read _ place (IsVersion version) (version_read version place) d xs e

  pub view_is_read : (m : FinMap row_cmp VersionName) → IsMapOf (IsVersion version) d m → view_in version place d ≡ Ok (finite.entries m)
  view_is_read m is = entries_are_read _ place (IsVersion version) (version_is_read version place) d (finite.entries m) is (finite.entries_sorted m)

pub installed_list_read : (version : FileVersion) (d : Data) (xs : List (Row × List ℕ)) → installed_in version d ≡ Ok xs → IsMapOf (IsInstalled version) d (finite.from_sorted xs)
installed_list_read version d xs e = map_read _ list.Installed (IsInstalled version) (installed_read version list.Installed) d xs e

pub installed_list_is_read : (version : FileVersion) (d : Data) (m : FinMap row_cmp (List ℕ)) → IsMapOf (IsInstalled version) d m → installed_in version d ≡ Ok (finite.entries m)
installed_list_is_read version d m is = entries_are_read _ list.Installed (IsInstalled version) (installed_is_read version list.Installed) d (finite.entries m) is (finite.entries_sorted m)
