-- Members of lists that are lists themselves.
use Rattle.std.proofs.Common.{◌≡◌, ◌≢◌, ◌<◌, ℕ, List, [], ◌∷◌, length, Some, None, Bool, if◌then◌else◌, Err, refl, ap, ◌∙◌, arith, ne_eqb}
use Rattle.serde_json.specs.{declared.value.Value.{Value}, View.{items_view}}
use Rattle.lab_history_file.{specs.{Member.{sized, split_key}, Entries.{items_from, installer_in, installers_of}, declared.file_version.FileVersion.TheVariants.{One, Two}}, proofs.{Counts.{items_count}, MemberKeys.{sized_is}}}
use Rattle.lab_history.specs.declared.fault.FileFault.TheVariants as fault
use Rattle.lab_history.specs.declared.path.Path.TheVariants as path
use Rattle.lab_history.specs.declared.path.ListPlace.{ListPlace}
use Rattle.lab_history.specs.declared.path.ListPlace.TheVariants as list

-- a list of so many parts, and of another number
pub parts_sized : (n : ℕ) (vs : List Value) → length vs ≡ n → sized n (Some (items_view vs)) ≡ Some (items_view vs)
parts_sized n vs same = sized_is n (items_view vs) (items_count vs ∙ same)

pub parts_missized : (n : ℕ) (vs : List Value) → length vs ≢ n → sized n (Some (items_view vs)) ≡ None
parts_missized n vs other = ap (λ (b : Bool). if b then Some (items_view vs) else None) (ne_eqb _ n (λ same. other (omega (arith, items_count vs, same))))

-- too few parts for a key
pub no_id : (place : ListPlace) (index : ℕ) (vs : List Value) → length vs < 1 → split_key One place index (items_view vs) ≡ Err (fault.WrongFormat (path.Member place index))
no_id place index [] few = refl
no_id place index (a ∷ vs) few = absurd (omega (arith, few))

pub no_table : (place : ListPlace) (index : ℕ) (vs : List Value) → length vs < 2 → split_key Two place index (items_view vs) ≡ Err (fault.WrongFormat (path.Member place index))
no_table place index [] few = refl
no_table place index (a ∷ []) few = refl
no_table place index (a ∷ b ∷ vs) few = absurd (omega (arith, few))

-- an empty list has no installer
pub no_installer : (index part : ℕ) (vs : List Value) → length vs ≡ 0 → installers_of index part (Some (items_view vs)) ≡ Err (fault.WrongFormat (path.Part list.Installed index part))
no_installer index part [] none = refl
no_installer index part (a ∷ vs) none = absurd (omega (arith, none))

-- any other list has those of its members
pub some_installer : (index part : ℕ) (vs : List Value) → length vs ≢ 0 → installers_of index part (Some (items_view vs)) ≡ items_from (installer_in index part) [] 0 (items_view vs)
some_installer index part [] some = absurd (some refl)
some_installer index part (a ∷ vs) some = refl
