-- The faults of lists whose members begin with a row are true.
use Rattle.std.{proofs.{Common.{◌≡◌, ℕ, ◌+◌, ◌<◌, ⊎_elim, [], Bool, true, false, Option, Some, None, is_some, option_and_then, Result, Ok, Err, if◌then◌else◌, refl, ap, sym, subst, ◌∙◌, arith, codes}, lemmas.Bool.{lt-ltb}}, specs.Prelude.{nat_lt}}
use Rattle.serde_json.specs.{Data.{Data, array, Items, no_items, item}, Find.{as_array, at, get_item}}
use Rattle.lab_table.specs.Row.{Row}
use Rattle.lab_history.{specs.{Faults.{required}, declared.{fault.FileFault.{FileFault}, path.ListPlace.{ListPlace}}}, proofs.Steps.{either_err, required_ok, required_err}}
use Rattle.lab_history_file.specs.Member.{Key, with_key, key_parts, id_in, table_in, row_in, row_of, plain_in, full_in, count, sized, split_key, member_in}
use Rattle.lab_history_file.specs.Entries.{entries_in, txn_in_number, op_in_number, entry_in, one_in, version_name_in, items_from, installer_in, installers_of, installers_in, installed_in}
use Rattle.lab_history_file.specs.FaultOf.{IsTrueIn}
use Rattle.lab_history_file.specs.PlaceShape.{parts_behind, parts_of, has_items, second_fits, part_fits}
use Rattle.lab_history_file.specs.ValueAt.{list_at}
use Rattle.lab_history_file.specs.Format.{at_key}
use Rattle.lab_history.specs.declared.fault.FileFault.TheVariants as fault
use Rattle.lab_history_file.specs.declared.file_version.FileVersion.{FileVersion, TheVariants.{One, Two}}
use Rattle.lab_history.specs.declared.path.ListPlace.TheVariants as list
use Rattle.lab_history.specs.declared.path.Path.TheVariants as path
use Rattle.lab_history_file.proofs.{JsonShapes.{array_of}, MemberKeys.{sized_some, sized_none, one_part, two_parts, member_begins}, KeyParts.{first_behind, second_behind, first_fits, last_fits, own_part, key_begins}, EntriesRead.{entry_read}, ItemsRead.{each_err}, ListWalks.{is_wrong, list_fault}}

-- ---- members

module _ (d l : Data) (place : ListPlace) (stands : list_at d place ≡ Some l) (k : ℕ) (m : Data) (member : at k l ≡ Some m) (f : FileFault) where
  at_member : option_and_then (at k) (list_at d place) ≡ Some m
  at_member = ap (option_and_then (at k)) stands ∙ member

  wrong_part : (version : FileVersion) (part : ℕ) (v : Data) → nat_lt part (parts_of version place) ≡ true → at part m ≡ Some v → part_fits version place part v ≡ false
      → f ≡ fault.WrongFormat (path.Part place k part) → IsTrueIn version d f
  wrong_part version part v is_part here wrong is =
      is_wrong version d f (path.Part place k part) v is
      (ap (λ (b : Bool). if b then (option_and_then (at part) (option_and_then (at k) (list_at d place))) else None) is_part ∙ ap (option_and_then (at part)) at_member ∙ here) wrong

  -- a key
  key_fault : (version : FileVersion) (ds : Items) → m ≡ array ds → count ds ≡ parts_of version place → split_key version place k ds ≡ Err f → IsTrueIn version d f
  key_fault One no_items tree size e = absurd (omega (arith, size))
  key_fault One (item a ds) tree size e =
      ⊎_elim
      (λ wrong. ⊎_elim
      (λ missing. let r = required_err (path.Part place k 0) (id_in a) f missing in wrong_part One 0 a (lt-ltb 0 _ (omega (arith, size))) (ap (at 0) tree) (ap is_some r.0) r.1)
      (λ found. absurd cc)
      (either_err (required (path.Part place k 0) (id_in a)) _ f wrong))
      (λ found. absurd cc)
      (either_err (plain_in place k a) _ f e)
  key_fault Two no_items tree size e = absurd (omega (arith, size))
  key_fault Two (item a no_items) tree size e = absurd (omega (arith, size))
  key_fault Two (item a (item b ds)) tree size e =
      ⊎_elim
      (λ wrong. ⊎_elim
      (λ missing. let r = required_err (path.Part place k 0) (table_in a) f missing in wrong_part Two 0 a (lt-ltb 0 _ (omega (arith, size))) (ap (at 0) tree) (ap is_some r.0) r.1)
      (λ named. ⊎_elim
      (λ missing. let r = required_err (path.Part place k 1) (id_in b) f missing in wrong_part Two 1 b (lt-ltb 1 _ (omega (arith, size))) (ap (at 1) tree) (ap is_some r.0) r.1)
      (λ found. absurd cc)
      (either_err (required (path.Part place k 1) (id_in b)) _ f named.2))
      (either_err (required (path.Part place k 0) (table_in a)) _ f wrong))
      (λ found. absurd cc)
      (either_err (full_in place k a b) _ f e)

  module _ (version : FileVersion) where
    -- a member that is no list of so many parts, or whose key is wrong
    member_fault : member_in (parts_behind place) version place k (as_array m) ≡ Err f → IsTrueIn version d f
    member_fault e =
        ⊎_elim
        (λ missing. let r = required_err (path.Member place k) (sized (parts_of version place) (as_array m)) f missing in is_wrong version d f (path.Member place k) m r.1 at_member (sized_none _ (as_array m) r.0))
        (λ found. let parts = sized_some _ (as_array m) found.0 (required_ok _ _ _ found.1) in key_fault version found.0 (array_of m found.0 parts.0) parts.1 found.2)
        (either_err (required (path.Member place k) (sized (parts_of version place) (as_array m))) _ f e)

    -- a part behind a key
    wrong_first : (v : Data) → 0 < parts_behind place → at (key_parts version) m ≡ Some v → second_fits place v ≡ false → f ≡ fault.WrongFormat (path.Part place k (key_parts version)) → IsTrueIn version d f
    wrong_first v some here wrong is = wrong_part version (key_parts version) v (lt-ltb _ _ (omega (arith, some))) here (first_fits version place v ∙ wrong) is

    wrong_last : (v : Data) → 1 < parts_behind place → at (key_parts version + 1) m ≡ Some v → is_some (op_in_number v) ≡ false → f ≡ fault.WrongFormat (path.Part place k (key_parts version + 1)) → IsTrueIn version d f
    wrong_last v more here wrong is = wrong_part version (key_parts version + 1) v (lt-ltb _ _ (omega (arith, more))) here (last_fits version place v ∙ wrong) is

    -- a member with so many parts behind its key, where the faults of those are true
    entry_fault : {X : Type 0} (read : FileVersion → ListPlace → ℕ → Items → Result X FileFault)
        → ((key : Key) (row : Row) (rest : Items) → m ≡ array (with_key key rest) → row_in version key ≡ Some row → count rest ≡ parts_behind place → read version place k rest ≡ Err f → IsTrueIn version d f)
        → entry_in (parts_behind place) read version place k m ≡ Err f → IsTrueIn version d f
    entry_fault read behind e =
        ⊎_elim member_fault (λ split.
        let begins = member_begins place k (parts_behind place) version (as_array m) split.0 split.1 in
        ⊎_elim (λ wrong. behind begins.0 split.0.0 split.0.1 (array_of m _ begins.1) begins.2 begins.3 wrong) (λ other. absurd cc) (either_err (read version place k split.0.1) _ f split.2))
        (either_err (member_in (parts_behind place) version place k (as_array m)) _ f e)

    -- [key, x]
    pair_items_fault : {X : Type 0} (read : Data → Option X) → parts_behind place ≡ 1 → ((v : Data) → second_fits place v ≡ is_some (read v))
        → entry_in (parts_behind place) (one_in read) version place k m ≡ Err f → IsTrueIn version d f
    pair_items_fault read one second e = entry_fault (one_in read) (λ key row rest tree is size wrong.
        let part = one_part rest (size ∙ one) in
        let r = required_err _ _ f wrong in
        let missing : read part.0 ≡ None = sym (ap (λ ds. option_and_then read (get_item 0 ds)) part.1) ∙ r.0 in
        wrong_first part.0 (omega (arith, one)) (ap (at (key_parts version)) (tree ∙ ap (λ ds. array (with_key key ds)) part.1) ∙ first_behind version key row part.0 no_items is)
        (second part.0 ∙ ap is_some missing) r.1) e

    -- [key, txn, op]
    version_items_fault : parts_behind place ≡ 2 → ((v : Data) → second_fits place v ≡ is_some (txn_in_number v)) → entry_in (parts_behind place) version_name_in version place k m ≡ Err f
        → IsTrueIn version d f
    version_items_fault two second e = entry_fault version_name_in (λ key row rest tree is size wrong.
        let parts = two_parts rest (size ∙ two) in
        let whole = tree ∙ ap (λ ds. array (with_key key ds)) parts.2 in
        ⊎_elim
        (λ missing.
        let r = required_err _ (txn_in_number parts.0) f missing in
        wrong_first parts.0 (omega (arith, two)) (ap (at (key_parts version)) whole ∙ first_behind version key row parts.0 _ is) (second parts.0 ∙ ap is_some r.0) r.1)
        (λ txn. ⊎_elim
        (λ missing.
        let r = required_err _ (op_in_number parts.1) f missing in
        wrong_last parts.1 (omega (arith, two)) (ap (at (key_parts version + 1)) whole ∙ second_behind version key row parts.0 parts.1 no_items is) (ap is_some r.0) r.1)
        (λ other. absurd cc)
        (either_err (required (path.Part place k (key_parts version + 1)) (op_in_number parts.1)) _ f txn.2))
        (either_err (required (path.Part place k (key_parts version)) (txn_in_number parts.0)) _ f (subst (λ ds. version_name_in version place k ds ≡ Err f) parts.2 wrong))) e

-- ---- installers

installer_err : (index part : ℕ) (ds : Items) (f : FileFault) → items_from (installer_in index part) [] 0 ds ≡ Err f
    → (k : ℕ) × (v : Data) × (get_item k ds ≡ Some v) × (txn_in_number v ≡ None) × (f ≡ fault.WrongFormat (path.Installer index part k))
installer_err index part ds f e =
    let found = each_err (installer_in index part) ds f e in
    let r = required_err (path.Installer index part found.1) (txn_in_number found.2) f found.4 in
    (found.1, found.2, found.3, r.0, r.1)

module _ (version : FileVersion) (d : Data) (k : ℕ) (m : Data) (member : at k (at_key (codes "installed") d) ≡ Some m) (f : FileFault) where
  second_items_fault : (v : Data) (o : Option Items) → at (key_parts version) m ≡ Some v → as_array v ≡ o → installers_of k (key_parts version) o ≡ Err f → IsTrueIn version d f
  second_items_fault v None here is e = wrong_first d (at_key (codes "installed") d) list.Installed refl k m member f version v (omega arith) here (ap has_items is) cc
  second_items_fault v (Some no_items) here is e = wrong_first d (at_key (codes "installed") d) list.Installed refl k m member f version v (omega arith) here (ap has_items is) cc
  second_items_fault v (Some (item a ds)) here is e =
      let found = installer_err k (key_parts version) (item a ds) f e in
      is_wrong version d f (path.Installer k (key_parts version) found.0) found.1 found.4
      (ap (λ (b : Bool). if b then option_and_then (at found.0) (option_and_then (at (key_parts version)) (at k (at_key (codes "installed") d))) else None) (own_part version)
      ∙ ap (λ o. option_and_then (at found.0) (option_and_then (at (key_parts version)) o)) member ∙ ap (option_and_then (at found.0)) here ∙ ap (at found.0) (array_of v _ is) ∙ found.2)
      (ap is_some found.3)

  installed_items_fault : entry_in 1 installers_in version list.Installed k m ≡ Err f → IsTrueIn version d f
  installed_items_fault e = entry_fault d (at_key (codes "installed") d) list.Installed refl k m member f version installers_in (λ key row rest tree is size wrong.
      let part = one_part rest size in
      second_items_fault part.0 (as_array part.0) (ap (at (key_parts version)) (tree ∙ ap (λ ds. array (with_key key ds)) part.1) ∙ first_behind version key row part.0 no_items is) refl
      (subst (λ ds. installers_in version list.Installed k ds ≡ Err f) part.1 wrong)) e

-- ---- the lists

-- a member that is read begins with its row
entry_starts : {X : Type 0} (n : ℕ) (read : FileVersion → ListPlace → ℕ → Items → Result X FileFault) (version : FileVersion) (place : ListPlace) (i : ℕ) (m : Data) (x : Row × X)
    → entry_in n read version place i m ≡ Ok x → row_of version m ≡ Some x.0
entry_starts n read version place i m x e = let is = entry_read n read version place i m x e in ap (row_of version) is.2 ∙ key_begins version is.0 x.0 is.1 is.3

module _ (version : FileVersion) (d l : Data) (f : FileFault) where
  pub pairs_fault : {X : Type 0} (read : Data → Option X) (place : ListPlace) → list_at d place ≡ Some l → parts_behind place ≡ 1 → ((v : Data) → second_fits place v ≡ is_some (read v))
      → entries_in (entry_in (parts_behind place) (one_in read) version place) place l ≡ Err f → IsTrueIn version d f
  pairs_fault read place stands one second e =
      list_fault version _ place (entry_starts _ (one_in read) version place) f d l stands (λ k m member wrong. pair_items_fault d l place stands k m member f version read one second wrong) e

  pub view_fault : (place : ListPlace) → list_at d place ≡ Some l → parts_behind place ≡ 2 → ((v : Data) → second_fits place v ≡ is_some (txn_in_number v))
      → entries_in (entry_in (parts_behind place) version_name_in version place) place l ≡ Err f → IsTrueIn version d f
  view_fault place stands two second e =
      list_fault version _ place (entry_starts _ version_name_in version place) f d l stands (λ k m member wrong. version_items_fault d l place stands k m member f version two second wrong) e

pub installed_fault : (version : FileVersion) (d : Data) (f : FileFault) → installed_in version (at_key (codes "installed") d) ≡ Err f → IsTrueIn version d f
installed_fault version d f e =
    list_fault version _ list.Installed (entry_starts 1 installers_in version list.Installed) f d (at_key (codes "installed") d) refl (λ k m member wrong. installed_items_fault version d k m member f wrong) e
