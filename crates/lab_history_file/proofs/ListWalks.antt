-- The walk along a list whose members begin with a row.
use Rattle.std.proofs.Common.{◌≡◌, ℕ, ◌+◌, ⊎_elim, Bool, true, false, List, [], ◌∷◌, ◌++◌, Option, Some, None, is_some, Result, Ok, Err, if◌then◌else◌, is_lt, refl, sym, ap, subst, ◌∙◌}
use Rattle.serde_json.specs.{Data.{Data, array, Items}, Find.{as_array, at, get_item}}
use Rattle.lab_table.specs.Row.{Row, row_cmp}
use Rattle.lab_history.{specs.{Faults.{required}, RowOrder.{follows}, declared.{fault.FileFault.{FileFault}, path.{ListPlace.{ListPlace}, Path.{Path}}}}, proofs.Steps.{either_err, required_ok, required_err}}
use Rattle.lab_history_file.specs.{Entries.{last_row, placed_in, entries_in}, Member.{row_of}, FaultOf.{FallsSomewhere, IsTrueIn}, PlaceShape.{fits}, ValueAt.{list_at, value_at}, declared.file_version.FileVersion.{FileVersion}}
use Rattle.lab_history.specs.declared.fault.FileFault.TheVariants as fault
use Rattle.lab_history.specs.declared.path.Path.TheVariants as path
use Rattle.lab_history_file.proofs.{ItemsRead.{tail_all, items_err}, ListsRead.{last_pushed, placed_ok}, JsonShapes.{array_of}}

-- a value that may not stand at its path
pub is_wrong : (version : FileVersion) (d : Data) (f : FileFault) (p : Path) (v : Data) → f ≡ fault.WrongFormat p → value_at version d p ≡ Some v → fits version p v ≡ false → IsTrueIn version d f
is_wrong version d f p v e here wrong = subst (IsTrueIn version d) (sym e) (v, here, wrong)

-- the item before a place begins with this row
abbrev Before : FileVersion → Items → ℕ → Option Row → Type 0
Before version all i before = (row : Row) → before ≡ Some row → (j : ℕ) × (a : Data) × (j + 1 ≡ i) × (get_item j all ≡ Some a) × (row_of version a ≡ Some row)

-- what isn't read is under a test that failed
under_err : {A : Type 0} (b : Bool) (x : A) (g f : FileFault) → (if b then Ok x else Err g) ≡ Err f → (b ≡ false) × (f ≡ g)
under_err true x g f e = absurd cc
under_err false x g f e = (refl, cc)

-- a row that doesn't follow stands behind another
doesnt_follow : (before : Option Row) (row : Row) → follows before row ≡ false → (r : Row) × (before ≡ Some r) × (is_lt (row_cmp r row) ≡ false)
doesnt_follow None row e = absurd cc
doesnt_follow (Some r) row e = (r, refl, e)

module _ (version : FileVersion) {X : Type 0} (read : ℕ → Data → Result (Row × X) FileFault) (place : ListPlace)
    (starts : (i : ℕ) (d : Data) (x : Row × X) → read i d ≡ Ok x → row_of version d ≡ Some x.0) (f : FileFault) where
  one_before : (all : Items) (before : List (Row × X)) (i : ℕ) (d : Data) (ds : Items) (x : Row × X) → get_item i all ≡ Some d → placed_in read place before i d ≡ Ok x
      → Before version all i (last_row before) → Before version all (i + 1) (last_row (before ++ x ∷ []))
  one_before all before i d ds x here e prior =
      let row = starts i d x (placed_ok read place before i d x e).0 in
      subst (Before version all (i + 1)) (sym (last_pushed before x)) (λ r same. (i, d, refl, here, row ∙ same))

  -- the fault of a list is true, where those of its members are
  pub list_fault : (d l : Data) → list_at d place ≡ Some l → ((k : ℕ) (m : Data) → at k l ≡ Some m → read k m ≡ Err f → IsTrueIn version d f)
      → entries_in read place l ≡ Err f → IsTrueIn version d f
  list_fault d l stands members e =
      ⊎_elim
      (λ missing. let is = required_err (path.List place) (as_array l) f missing in is_wrong version d f (path.List place) l is.1 stands (ap is_some is.0))
      (λ found.
      let is = array_of l found.0 (required_ok (path.List place) (as_array l) found.0 found.1) in
      let failed = items_err (placed_in read place) (λ before k ds. Before version found.0 k (last_row before)) found.0 f (one_before found.0) [] 0 found.0 (tail_all found.0) (λ r none. absurd cc) found.2 in
      let k = failed.1 in
      let m = failed.2 in
      ⊎_elim (λ wrong. members k m (ap (at k) is ∙ failed.4) wrong)
      (λ entry.
      let off = under_err (follows (last_row failed.0) entry.0.0) entry.0 _ f entry.2 in
      let behind = doesnt_follow (last_row failed.0) entry.0.0 off.0 in
      let last = failed.5 behind.0 behind.1 in
      let falls : FallsSomewhere version (array found.0) =
      (last.0, last.1, m, behind.0, entry.0.0, last.3, ap (λ n. get_item n found.0) last.2 ∙ failed.4, last.4, starts k m entry.0 entry.1, behind.2) in
      subst (IsTrueIn version d) (sym off.1) (place, l, refl, stands, subst (FallsSomewhere version) (sym is) falls))
      (either_err (read k m) _ f failed.6))
      (either_err (required (path.List place) (as_array l)) _ f e)
