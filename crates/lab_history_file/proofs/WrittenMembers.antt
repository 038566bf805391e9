-- Members of lists as they are written: a key, and what stands behind it.
use Rattle.std.proofs.Common.{◌≡◌, ◌≢◌, ℕ, true, List, [], ◌∷◌, Some, None, if◌then◌else◌, refl, ap, sym, ◌∙◌}
use Rattle.lab_table.specs.Row.{Row}
use Rattle.lab_history_file.{specs.{Entries.{txn_in_number}, FileOf.{IsListOf, IsPair, IsVersion, IsInstalled}, Member.{row_in, key_tree}, Tree.{natural_tree, list_tree, pair_tree, version_tree}, declared.file_version.FileVersion.TheVariants.{Two}}, proofs.FileKeys.{with_begins}}
use Rattle.serde_json.specs.Data.{Data}
use Rattle.lab_history.specs.{HistoryRules.{is_listed, has_installer}, declared.operation.VersionName.{VersionName, TheVariants.{Of}}}

-- a value
pub pair_stands : {X : Type 0} (Is : Data → X → Type 0) (tree : X → Data) (entry : Row × X) → row_in Two (key_tree entry.0) ≡ Some entry.0 → Is (tree entry.1) entry.1 → IsPair Two Is (pair_tree tree entry) entry
pair_stands Is tree entry read is = (tree entry.1, with_begins Two entry.0 (tree entry.1 ∷ []) (pair_tree tree entry) (key_tree entry.0) refl read, is)

-- a version
pub version_stands : (entry : Row × VersionName) (txn op : ℕ) → entry.1 ≡ Of txn op → is_listed entry.1 ≡ true → row_in Two (key_tree entry.0) ≡ Some entry.0 → txn_in_number (natural_tree txn) ≡ Some txn
    → IsVersion Two (version_tree entry) entry
version_stands entry txn op is listed read number =
    let within : is_listed (Of txn op) ≡ true = ap is_listed (sym is) ∙ listed in
    (natural_tree txn, natural_tree op, txn, op, with_begins Two entry.0 (natural_tree txn ∷ natural_tree op ∷ []) (version_tree entry) (key_tree entry.0) (ap (λ v. version_tree (entry.0, v)) is) read, number, ap (λ b. if b then Some op else None) within, is)

some_installer : (ns : List ℕ) → has_installer ns ≡ true → ns ≢ []
some_installer [] has e = absurd cc
some_installer (n ∷ ns) has e = absurd cc

-- a row with its installers
pub installed_stands : (entry : Row × List ℕ) → has_installer entry.1 ≡ true → row_in Two (key_tree entry.0) ≡ Some entry.0
    → IsListOf (λ e n. txn_in_number e ≡ Some n) (list_tree natural_tree entry.1) entry.1 → IsInstalled Two (pair_tree (list_tree natural_tree) entry) entry
installed_stands entry has read those = (pair_stands (IsListOf (λ number txn. txn_in_number number ≡ Some txn)) (list_tree natural_tree) entry read those, some_installer entry.1 has)
