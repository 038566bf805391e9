-- The lists of a file are right: each member has its parts, and the rows rise.
use Rattle.std.{proofs.Common.{◌≡◌, ℕ, zero, suc, ◌+◌, true, T, List, [], ◌∷◌, Some, is_some, slice_get, is_lt, refl, sym, ap, subst, ◌∙◌, arith, eq-eqb}, specs.FinMap.{FinMap}}
use Rattle.std.specs.FinMap as finite
use Rattle.serde_json.specs.{Data.{Data, array, Items, no_items, item}, Find.{as_array, at, get_item}}
use Rattle.lab_table.{specs.Row.{Row, row_cmp}, proofs.Tests.{both}}
use Rattle.lab_history_file.specs.Member.{Key, with_key, key_parts, row_in, row_of, count, has_size}
use Rattle.lab_history_file.specs.Entries.{txn_in_number, op_in_number}
use Rattle.lab_history_file.specs.FaultOf.{FallsSomewhere}
use Rattle.lab_history_file.specs.PlaceShape.{parts_behind, parts_of, has_items, second_fits, behind_fits, part_fits}
use Rattle.lab_history_file.specs.FileOf.{AreEach, IsMapOf, IsPair, IsVersion, IsInstalled}
use Rattle.lab_history_file.specs.declared.file_version.FileVersion.{FileVersion}
use Rattle.lab_history.specs.declared.{operation.VersionName.{VersionName}, path.ListPlace.{ListPlace}}
use Rattle.lab_history.specs.declared.path.ListPlace.TheVariants as list
use Rattle.lab_history_file.proofs.{FileKeys.{begins_with}, KeyParts.{first_behind, key_begins, parts_fit}, MemberKeys.{key_count}}

-- what an item at a place stands for
pub each_at : {X : Type 0} (Is : Data → X → Type 0) (ds : Items) (xs : List X) → AreEach Is ds xs → (k : ℕ) (m : Data) → get_item k ds ≡ Some m
    → (x : X) × (slice_get xs k ≡ Some x) × Is m x
each_at Is no_items [] each k m e = absurd cc
each_at Is no_items (x ∷ xs) each k m e = absurd each
each_at Is (item d ds) [] each k m e = absurd each
each_at Is (item d ds) (x ∷ xs) each zero m e = let same : d ≡ m = cc in (x, refl, subst (λ n. Is n x) same each.0)
each_at Is (item d ds) (x ∷ xs) each (suc k) m e = each_at Is ds xs each.1 k m e

-- neighbours of a list that rises
neighbours : {X : Type 0} (xs : List (Row × X)) (k : ℕ) (x y : Row × X) → T (finite.is_sorted row_cmp xs) → slice_get xs k ≡ Some x → slice_get xs (suc k) ≡ Some y → T (is_lt (row_cmp x.0 y.0))
neighbours [] k x y rise e f = absurd cc
neighbours (u ∷ []) k x y rise e f = absurd cc
neighbours (u ∷ v ∷ xs) zero x y rise e f =
    let first : u ≡ x = cc in
    let second : v ≡ y = cc in
    subst (λ (z : Row × _). T (is_lt (row_cmp x.0 z.0))) second (subst (λ (z : Row × _). T (is_lt (row_cmp z.0 v.0))) first (both _ _ (both _ _ rise).0).0)
neighbours (u ∷ v ∷ xs) (suc k) x y rise e f = neighbours (v ∷ xs) k x y (both _ _ rise).1 e f

-- a list in which nothing is wrong but perhaps within its parts
pub record IsGood (version : FileVersion) (place : ListPlace) (l : Data) : Type 0 where
  pub is_list : is_some (as_array l) ≡ true
  pub sizes : (k : ℕ) (m : Data) → at k l ≡ Some m → has_size (parts_of version place) (as_array m) ≡ true
  pub parts : (k part : ℕ) (m v : Data) → at k l ≡ Some m → at part m ≡ Some v → part_fits version place part v ≡ true
  pub rises : FallsSomewhere version l → ⊥

module _ (version : FileVersion) {X : Type 0} (Is : Data → Row × X → Type 0) (place : ListPlace) (l : Data) (m : FinMap row_cmp X) (is : IsMapOf Is l m) where
  member_at : (k : ℕ) (v : Data) → at k l ≡ Some v → (x : Row × X) × (slice_get (finite.entries m) k ≡ Some x) × Is v x
  member_at k v e = each_at Is is.0 (finite.entries m) is.2 k v (sym (ap (at k) is.1) ∙ e)

  rises_everywhere : ((v : Data) (x : Row × X) → Is v x → row_of version v ≡ Some x.0) → FallsSomewhere version l → ⊥
  rises_everywhere starts (k, a, b, before, after, first, second, begins, ends, off) =
      let one = member_at k a first in
      let next : k + 1 ≡ suc k = omega arith in
      let two = member_at (suc k) b (sym (ap (λ n. at n l) next) ∙ second) in
      let lower = starts a one.0 one.2 in
      let upper = starts b two.0 two.2 in
      let low : one.0.0 ≡ before = cc in
      let high : two.0.0 ≡ after = cc in
      let on = neighbours (finite.entries m) k one.0 two.0 (finite.entries_sorted m) one.1 two.1 in
      subst T off (subst (λ row. T (is_lt (row_cmp before row))) high (subst (λ row. T (is_lt (row_cmp row two.0.0))) low on))

  good : ((v : Data) (x : Row × X) → Is v x → has_size (parts_of version place) (as_array v) ≡ true)
      → ((part : ℕ) (v u : Data) (x : Row × X) → Is v x → at part v ≡ Some u → part_fits version place part u ≡ true)
      → ((v : Data) (x : Row × X) → Is v x → row_of version v ≡ Some x.0) → IsGood version place l
  good sized fit starts = record {
    is_list = ap (λ d. is_some (as_array d)) is.1;
    sizes = λ k v e. let x = member_at k v e in sized v x.0 x.2;
    parts = λ k part v u e f. let x = member_at k v e in fit part v u x.0 x.2 f;
    rises = rises_everywhere starts;
  }

  -- whose members have a key of their row, and behind it as many parts as there have to be, which may stand there
  good_entries : ((v : Data) (x : Row × X) → Is v x → (key : Key) × (rest : Items) × (v ≡ array (with_key key rest)) × (row_in version key ≡ Some x.0) × (count rest ≡ parts_behind place)
      × ((n : ℕ) (u : Data) → get_item n rest ≡ Some u → behind_fits place n u ≡ true)) → IsGood version place l
  good_entries entry = good
      (λ v x one. let e = entry v x one in ap (λ u. has_size (parts_of version place) (as_array u)) e.2 ∙ eq-eqb _ _ (key_count version e.0 x.0 e.1 e.3 ∙ ap (λ n. key_parts version + n) e.4))
      (λ part v u x one here. let e = entry v x one in parts_fit version place e.0 x.0 e.1 part u e.3 e.5 (sym (ap (at part) e.2) ∙ here))
      (λ v x one. let e = entry v x one in ap (row_of version) e.2 ∙ key_begins version e.0 x.0 e.1 e.3)

-- one part behind a key, and two
one_fits : (place : ListPlace) (b : Data) → second_fits place b ≡ true → (n : ℕ) (u : Data) → get_item n (item b no_items) ≡ Some u → behind_fits place n u ≡ true
one_fits place b first zero u e = let same : b ≡ u = cc in subst (λ v. second_fits place v ≡ true) same first
one_fits place b first (suc n) u e = absurd cc

two_fit : (place : ListPlace) (b c : Data) → second_fits place b ≡ true → is_some (op_in_number c) ≡ true → (n : ℕ) (u : Data) → get_item n (item b (item c no_items)) ≡ Some u → behind_fits place n u ≡ true
two_fit place b c first second zero u e = let same : b ≡ u = cc in subst (λ v. second_fits place v ≡ true) same first
two_fit place b c first second (suc zero) u e = let same : c ≡ u = cc in subst (λ v. is_some (op_in_number v) ≡ true) same second
two_fit place b c first second (suc (suc n)) u e = absurd cc

module _ (version : FileVersion) where
  pub good_pairs : {X : Type 0} (Is : Data → X → Type 0) (place : ListPlace) (l : Data) (m : FinMap row_cmp X) → parts_behind place ≡ 1 → ((v : Data) (x : X) → Is v x → second_fits place v ≡ true)
      → IsMapOf (IsPair version Is) l m → IsGood version place l
  good_pairs Is place l m one second is = good_entries version (IsPair version Is) place l m is
      (λ v x pair. let key = begins_with version x.0 (pair.0 ∷ []) v pair.1 in (key.0, _, key.1, key.2, sym one, one_fits place pair.0 (second pair.0 x.1 pair.2)))

  pub good_view : (place : ListPlace) (l : Data) (m : FinMap row_cmp VersionName) → parts_behind place ≡ 2 → ((v : Data) → second_fits place v ≡ is_some (txn_in_number v))
      → IsMapOf (IsVersion version) l m → IsGood version place l
  good_view place l m two second is = good_entries version (IsVersion version) place l m is
      (λ v x one. let key = begins_with version x.0 (one.0 ∷ one.1 ∷ []) v one.4 in (key.0, _, key.1, key.2, sym two, two_fit place one.0 one.1 (second one.0 ∙ ap is_some one.5) (ap is_some one.6)))

-- a list of some installers has items
some_items : (b : Data) (ns : List ℕ) (ds : Items) → b ≡ array ds → AreEach (λ e n. txn_in_number e ≡ Some n) ds ns → (ns ≡ [] → ⊥) → has_items (as_array b) ≡ true
some_items b [] no_items is each some = absurd (some refl)
some_items b (n ∷ ns) no_items is each some = absurd each
some_items b ns (item d ds) is each some = ap (λ v. has_items (as_array v)) is

module _ (version : FileVersion) where
  pub good_installed : (l : Data) (m : FinMap row_cmp (List ℕ)) → IsMapOf (IsInstalled version) l m → IsGood version list.Installed l
  good_installed l m is = good_entries version (IsInstalled version) list.Installed l m is
      (λ v x one. let pair = one.0 in let key = begins_with version x.0 (pair.0 ∷ []) v pair.1 in (key.0, _, key.1, key.2, refl, one_fits list.Installed pair.0 (some_items pair.0 x.1 pair.2.0 pair.2.1 pair.2.2 one.1)))

  -- an installer of a list of them
  pub installer_fits : (l : Data) (m : FinMap row_cmp (List ℕ)) → IsMapOf (IsInstalled version) l m → (i k : ℕ) (member inner v : Data) → at i l ≡ Some member
      → at (key_parts version) member ≡ Some inner → at k inner ≡ Some v → is_some (txn_in_number v) ≡ true
  installer_fits l m is i k member inner v e f g =
      let found = member_at version (IsInstalled version) list.Installed l m is i member e in
      let one = found.2.0 in
      let key = begins_with version found.0.0 (one.0 ∷ []) member one.1 in
      let second : one.0 ≡ inner = let there = sym (ap (at (key_parts version)) key.1 ∙ first_behind version key.0 found.0.0 one.0 no_items key.2) ∙ f in cc in
      ap is_some (each_at (λ d n. txn_in_number d ≡ Some n) one.2.0 _ one.2.2 k v (sym (ap (at k) (sym second ∙ one.2.1)) ∙ g)).2
