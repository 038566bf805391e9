-- The numbers, strings and keys of the value of a history's file fit.
use Rattle.std.{proofs.{Common.{◌≡◌, ℕ, ◌<◌, ◌^◌, ◌&&◌, true, List, [], ◌∷◌, ◌++◌, map, Option, Some, None, if◌then◌else◌, refl, ap, subst, ◌∙◌, arith}, lemmas.Bool.{and_parts, leb-true, ltb-true}}, specs.{Prelude.{ℤ, pos, negsuc, nat_le, nat_lt, int_le, codes, IsUtf8}, List.{list_all}}}
use Rattle.std.specs.FinMap as finite
use Rattle.serde_json.specs.{Data.{Data, string, array, no_items, item}, View.{items_of}, Read.{read}, Written.{compact_text}}
use Rattle.lab_table.specs.Row.{Row}
use Rattle.lab_printing.specs.Printed.{printed_statement}
use Rattle.lab_history.{proofs.Steps.{both_some, when_found}, specs.{History.{History}, Limits.{max_operations}, declared.{operation.{Op.{Op}, VersionName.{VersionName, TheVariants.{Initial, Of}}}, transaction.{Txn.{Txn}, Outcome.{Outcome, TheVariants.{Committed, Aborted}}}}}}
use Rattle.lab_history_file.{specs.{Whole.{whole_in}, Member.{id_in}, Entries.{txn_in_number, op_in_number}, FileOf.{AreEach, IsListOf, IsPair, IsVersion, IsInstalled, IsValue, IsState, IsOperation, IsTransaction, IsFileIn, outcome_text}, Tree.{natural_tree, value_tree, written_tree, list_tree, pair_tree, map_tree, version_tree, view_tree, op_tree, txn_tree, tree_of}, declared.file_version.FileVersion.TheVariants.{Two}}, proofs.{ClearTexts.{is_clear, literal}, CodeBytes.{code_is_utf8, clear_is_utf8}, CompactTexts.{Fits, ItemsFit, compact_read, compact_utf8}, TableNames.{name_is_utf8}, WritableTree.{tree_flat}}}

-- ---- numbers

natural_fits : (high n : ℕ) → high < 2 ^ 64 → whole_in 1 high (natural_tree n) ≡ Some n → Fits (natural_tree n)
natural_fits high n lt e = omega (arith, leb-true n high (and_parts (nat_le 1 n) (nat_le n high) (when_found (nat_le 1 n && nat_le n high) n n e).0).1, lt)

value_fits : (z : ℤ) → IsValue (value_tree z) z → Fits (value_tree z)
value_fits (pos n) e =
    let read = both_some (if nat_lt n (2 ^ 63) then Some (pos n) else None) (λ z. if int_le (negsuc 999999999) z && int_le z (pos 1000000000) then Some z else None) (pos n) e in
    omega (arith, ltb-true n (2 ^ 63) (when_found (nat_lt n (2 ^ 63)) (pos n) read.0 read.1).0)
value_fits (negsuc n) e =
    omega (arith, leb-true n 999999999 (and_parts (int_le (negsuc 999999999) (negsuc n)) _ (when_found (int_le (negsuc 999999999) (negsuc n) && int_le (negsuc n) (pos 1000000000)) (negsuc n) (negsuc n) e).0).0)

written_fits : (s : Option ℤ) → IsState (written_tree s) s → Fits (written_tree s)
written_fits None is = tt
written_fits (Some z) is = value_fits z is

-- ---- lists and members

module _ {X : Type 0} (tree : X → Data) (Is : Data → X → Type 0) where
  each_fits : ((x : X) → Is (tree x) x → Fits (tree x)) → (xs : List X) → AreEach Is (items_of (map tree xs)) xs → ItemsFit (items_of (map tree xs))
  each_fits fits [] each = tt
  each_fits fits (x ∷ xs) each = (fits x each.0, each_fits fits xs each.1)

  list_fits : ((x : X) → Is (tree x) x → Fits (tree x)) → (xs : List X) → IsListOf Is (list_tree tree xs) xs → Fits (list_tree tree xs)
  list_fits fits xs (ds, e, each) = let same : ds ≡ items_of (map tree xs) = cc in each_fits fits xs (subst (λ es. AreEach Is es xs) same each)

  -- a key, and what stands behind it
  pair_fits : ((x : X) → Is (tree x) x → Fits (tree x)) → (entry : Row × X) → IsPair Two Is (pair_tree tree entry) entry → Fits (pair_tree tree entry)
  pair_fits fits entry (x, (key, (id, is, named, there), whole), stands) =
      let same : pair_tree tree entry ≡ array (item (string entry.0.table) (item id (item x no_items))) = whole ∙ ap (λ (k : List Data). array (items_of (k ++ x ∷ []))) is in
      let ids : id ≡ natural_tree entry.0.id = cc in
      let values : x ≡ tree entry.1 = cc in
      let id_fits = natural_fits 999999 entry.0.id (omega arith) (subst (λ d. id_in d ≡ Some entry.0.id) ids there) in
      (name_is_utf8 entry.0.table named, (id_fits, (fits entry.1 (subst (λ d. Is d entry.1) values stands), tt)))

version_fits : (entry : Row × VersionName) → IsVersion Two (version_tree entry) entry → Fits (version_tree entry)
version_fits (row, Initial) (a, b, n, m, begins, at, place, is) = absurd cc
version_fits (row, Of txn op) (a, b, n, m, (key, (id, is, named, there), whole), at, place, version) =
    let same : version_tree (row, Of txn op) ≡ array (item (string row.table) (item id (item a (item b no_items)))) = whole ∙ ap (λ (k : List Data). array (items_of (k ++ a ∷ b ∷ []))) is in
    let ids : id ≡ natural_tree row.id = cc in
    let txns : a ≡ natural_tree txn = cc in
    let ops : b ≡ natural_tree op = cc in
    let txn_is : n ≡ txn = cc in
    let op_is : m ≡ op = cc in
    let id_fits = natural_fits 999999 row.id (omega arith) (subst (λ d. id_in d ≡ Some row.id) ids there) in
    let txn_fits = natural_fits 1000000 txn (omega arith) (subst (λ d. txn_in_number d ≡ Some txn) txns (at ∙ ap (λ (k : ℕ). Some k) txn_is)) in
    let op_fits = natural_fits max_operations op (omega arith) (subst (λ d. op_in_number d ≡ Some op) ops (place ∙ ap (λ (k : ℕ). Some k) op_is)) in
    (name_is_utf8 row.table named, (id_fits, (txn_fits, (op_fits, tt))))

txn_number_fits : (n : ℕ) → txn_in_number (natural_tree n) ≡ Some n → Fits (natural_tree n)
txn_number_fits n e = natural_fits 1000000 n (omega arith) e

values_fit : (m : _) → IsListOf (IsPair Two IsValue) (map_tree value_tree m) (finite.entries m) → Fits (map_tree value_tree m)
values_fit m is = list_fits (pair_tree value_tree) (IsPair Two IsValue) (pair_fits value_tree IsValue value_fits) (finite.entries m) is

-- ---- objects

key_utf8 : (text : List ℕ) → list_all is_clear text ≡ true → IsUtf8 text
key_utf8 text clear = clear_is_utf8 (literal text clear)

op_fits : (op : Op) → IsOperation Two (op_tree op) op → Fits (op_tree op)
op_fits op (rows, view, writes, text, whole, spells, views, rows_are, writes_are) =
    let texts : text ≡ printed_statement op.statement = cc in
    let row_trees : rows ≡ map_tree value_tree op.rows = cc in
    let view_trees : view ≡ view_tree op.view = cc in
    let write_trees : writes ≡ map_tree written_tree op.writes = cc in
    let rows_fit = values_fit op.rows (subst (λ d. IsListOf (IsPair Two IsValue) d (finite.entries op.rows)) row_trees rows_are) in
    let text_fits = subst IsUtf8 texts (code_is_utf8 text spells.spells.ascii) in
    let view_fits = list_fits version_tree (IsVersion Two) version_fits (finite.entries op.view) (subst (λ d. IsListOf (IsVersion Two) d (finite.entries op.view)) view_trees views) in
    let writes_fit =
    list_fits (pair_tree written_tree) (IsPair Two IsState) (pair_fits written_tree IsState written_fits) (finite.entries op.writes)
    (subst (λ d. IsListOf (IsPair Two IsState) d (finite.entries op.writes)) write_trees writes_are) in
    ((key_utf8 (codes "rows") refl, rows_fit, (key_utf8 (codes "statement") refl, text_fits, (key_utf8 (codes "view") refl, view_fits, (key_utf8 (codes "writes") refl, writes_fit, tt)))), refl)

outcome_utf8 : (outcome : Outcome) → IsUtf8 (outcome_text outcome)
outcome_utf8 Committed = key_utf8 (codes "committed") refl
outcome_utf8 Aborted = key_utf8 (codes "aborted") refl

txn_fits : (t : Txn) → IsTransaction Two (txn_tree t) t → Fits (txn_tree t)
txn_fits t (n, ops, whole, is, ops_are) =
    let numbers : n ≡ natural_tree t.no = cc in
    let trees : ops ≡ list_tree op_tree t.ops = cc in
    let no_fits = txn_number_fits t.no (subst (λ d. txn_in_number d ≡ Some t.no) numbers is) in
    let ops_fit = list_fits op_tree (IsOperation Two) op_fits t.ops (subst (λ d. IsListOf (IsOperation Two) d t.ops) trees ops_are) in
    ((key_utf8 (codes "no") refl, no_fits, (key_utf8 (codes "ops") refl, ops_fit, (key_utf8 (codes "outcome") refl, outcome_utf8 t.outcome, tt))), refl)

pub file_fits : (h : History) → IsFileIn Two (tree_of h) h → Fits (tree_of h)
file_fits h file =
    let holds = file.holds in
    let whole = holds.tree in
    let initials : holds.initial ≡ map_tree value_tree h.initial = cc in
    let ends : holds.end ≡ map_tree value_tree h.end_table = cc in
    let installs : holds.installed ≡ map_tree (list_tree natural_tree) h.installed = cc in
    let transactions : holds.transactions ≡ list_tree txn_tree h.txns = cc in
    let end_fits = values_fit h.end_table (subst (λ d. IsListOf (IsPair Two IsValue) d (finite.entries h.end_table)) ends holds.end_is) in
    let initial_fits = values_fit h.initial (subst (λ d. IsListOf (IsPair Two IsValue) d (finite.entries h.initial)) initials holds.initial_is) in
    let installed_fits =
    list_fits (pair_tree (list_tree natural_tree)) (IsInstalled Two)
    (λ entry is. pair_fits (list_tree natural_tree) (IsListOf (λ d n. txn_in_number d ≡ Some n)) (list_fits natural_tree (λ d n. txn_in_number d ≡ Some n) txn_number_fits) entry is.0)
    (finite.entries h.installed) (subst (λ d. IsListOf (IsInstalled Two) d (finite.entries h.installed)) installs holds.installed_is) in
    let txns_fit = list_fits txn_tree (IsTransaction Two) txn_fits h.txns (subst (λ d. IsListOf (IsTransaction Two) d h.txns) transactions holds.transactions_are) in (
      (
        key_utf8 (codes "end") refl,
        end_fits,
        (
          key_utf8 (codes "format") refl,
          key_utf8 (codes "hermitage-history") refl,
          (
            key_utf8 (codes "initial") refl,
            initial_fits,
            (key_utf8 (codes "installed") refl, installed_fits, (key_utf8 (codes "transactions") refl, txns_fit, (key_utf8 (codes "version") refl, omega arith, tt))),
          ),
        ),
      ),
      refl,
    )

-- so its compact text is UTF-8, and is read as the value
module _ (h : History) (file : IsFileIn Two (tree_of h) h) where
  pub written_utf8 : IsUtf8 (compact_text (tree_of h))
  written_utf8 = compact_utf8 (tree_of h) (file_fits h file)

  pub written_read : read (compact_text (tree_of h)) ≡ Some (tree_of h)
  written_read = compact_read (tree_of h) (file_fits h file) (tree_flat h)
