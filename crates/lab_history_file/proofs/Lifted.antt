-- A file of version 1, as one of version 2, is a file of the same history.
use Rattle.std.proofs.Common.{◌≡◌, ℕ, List, [], ◌∷◌, ◌++◌, Some, Ok, refl, sym, ap, subst, ◌∙◌}
use Rattle.serde_json.specs.{Data.{Data, null, boolean, number, unsigned, string, array, object, Items, no_items, item}, View.{items_of}}
use Rattle.lab_table.specs.{Row.{Row}, TableName.{is_table_name}}
use Rattle.lab_history_file.specs.Entries.{txn_in_number}
use Rattle.lab_history_file.specs.FileOf.{outcome_text, AreEach, IsListOf, BeginsWith, IsPair, IsValue, IsState, IsVersion, IsInstalled, IsOperation, IsTransaction, HoldsIn, IsFileIn, IsFileOf}
use Rattle.lab_history_file.specs.Format.{version_said, history_in}
use Rattle.lab_history_file.specs.Lift.{each_item, in_list, lift_member, lift_list, lift_op, lift_txn, lift}
use Rattle.lab_history.specs.{History.{History}, declared.{operation.{Op.{Op}, VersionName.{VersionName}}, transaction.Txn.{Txn}}}
use Rattle.lab_history_file.specs.declared.file_version.FileVersion.TheVariants.{One, Two}
use Rattle.lab_history_file.proofs.{FileIsRead.{file_is_read}, ReadIsFile.{read_is_file}, Faultless.{says}}
use Rattle.lab_history_file.specs.Keys.{txn_keys, object_with}

-- ---- lists

-- where what each item stands for is what it stands for once it is changed, the changed list stands for the same
module _ {X : Type 0} (Is Becomes : Data → X → Type 0) (change : Data → Data) (kept : (d : Data) (x : X) → Is d x → Becomes (change d) x) where
  each_kept : (ds : Items) (xs : List X) → AreEach Is ds xs → AreEach Becomes (each_item change ds) xs
  each_kept no_items [] each = tt
  each_kept no_items (x ∷ xs) each = absurd each
  each_kept (item d ds) [] each = absurd each
  each_kept (item d ds) (x ∷ xs) each = (kept d x each.0, each_kept ds xs each.1)

  list_kept : (d : Data) (xs : List X) → IsListOf Is d xs → IsListOf Becomes (in_list change d) xs
  list_kept d xs is = (each_item change is.0, ap (in_list change) is.1, each_kept is.0 xs is.2)

-- ---- members

-- a key of version 1 with `test` in front of it is one of version 2
begins_lifts : (row : Row) (behind : List Data) (d : Data) → BeginsWith One row behind d → BeginsWith Two row behind (lift_member d)
begins_lifts row behind d (key, (id, is, test, there), tree) = (
  string row.table ∷ id ∷ [],
  (id, refl, ap is_table_name test, there),
  ap lift_member (tree ∙ ap (λ (ds : List Data). array (items_of (ds ++ behind))) is) ∙ ap (λ (name : List ℕ). array (item (string name) (item id (items_of behind)))) (sym test),
)

pair_lifts : {X : Type 0} (Is : Data → X → Type 0) (d : Data) (x : Row × X) → IsPair One Is d x → IsPair Two Is (lift_member d) x
pair_lifts Is d x (b, begins, is) = (b, begins_lifts x.0 (b ∷ []) d begins, is)

version_lifts : (d : Data) (x : Row × VersionName) → IsVersion One d x → IsVersion Two (lift_member d) x
version_lifts d x (b, c, txn, op, begins, first, second, is) = (b, c, txn, op, begins_lifts x.0 (b ∷ c ∷ []) d begins, first, second, is)

installed_lifts : (d : Data) (x : Row × List ℕ) → IsInstalled One d x → IsInstalled Two (lift_member d) x
installed_lifts d x (pair, some) = (pair_lifts (IsListOf (λ number txn. txn_in_number number ≡ Some txn)) d x pair, some)

-- ---- operations and transactions

op_lifts : (d : Data) (op : Op) → IsOperation One d op → IsOperation Two (lift_op d) op
op_lifts d op is = (
  lift_list is.0,
  lift_list is.1,
  lift_list is.2,
  is.3,
  ap lift_op is.4,
  record { spells = is.5.spells; may = refl },
  list_kept (IsVersion One) (IsVersion Two) lift_member version_lifts is.1 _ is.6,
  list_kept (IsPair One IsValue) (IsPair Two IsValue) lift_member (pair_lifts IsValue) is.0 _ is.7,
  list_kept (IsPair One IsState) (IsPair Two IsState) lift_member (pair_lifts IsState) is.2 _ is.8,
)

-- a number is no list
number_stays : (d : Data) (n : ℕ) → txn_in_number d ≡ Some n → in_list lift_op d ≡ d
number_stays null n e = refl
number_stays (boolean b) n e = refl
number_stays (number m) n e = refl
number_stays (string s) n e = refl
number_stays (array ds) n e = absurd cc
number_stays (object ms) n e = refl

txn_lifts : (d : Data) (txn : Txn) → IsTransaction One d txn → IsTransaction Two (lift_txn d) txn
txn_lifts d txn is = (
  is.0,
  in_list lift_op is.1,
  ap lift_txn is.2 ∙ ap (λ own. object_with txn_keys (own ∷ in_list lift_op is.1 ∷ string (outcome_text txn.outcome) ∷ [])) (number_stays is.0 txn.no is.3),
  is.3,
  list_kept (IsOperation One) (IsOperation Two) lift_op op_lifts is.1 _ is.4,
)

-- ---- the whole

parts_lift : (d : Data) (h : History) → HoldsIn One d h → HoldsIn Two (lift d) h
parts_lift d h file = record {
  number = number (unsigned 2);
  initial = lift_list file.initial;
  transactions = in_list lift_txn file.transactions;
  installed = lift_list file.installed;
  end = lift_list file.end;
  tree = ap lift file.tree;
  number_is = refl;
  initial_is = list_kept (IsPair One IsValue) (IsPair Two IsValue) lift_member (pair_lifts IsValue) file.initial _ file.initial_is;
  transactions_are = list_kept (IsTransaction One) (IsTransaction Two) lift_txn txn_lifts file.transactions _ file.transactions_are;
  installed_is = list_kept (IsInstalled One) (IsInstalled Two) lift_member installed_lifts file.installed _ file.installed_is;
  end_is = list_kept (IsPair One IsValue) (IsPair Two IsValue) lift_member (pair_lifts IsValue) file.end _ file.end_is;
}

-- a file that says version 1 is one of version 1
pub lifted_file : (d : Data) (h : History) → version_said d ≡ One → IsFileOf d h → IsFileIn Two (lift d) h
lifted_file d h one (version, file) = record {
  holds = parts_lift d h (subst (λ v. HoldsIn v d h) (sym (says version d h file) ∙ one) file.holds);
  keeps = file.keeps;
}

-- what is read of it is read of the other
pub lifted_read : (d : Data) (h : History) → version_said d ≡ One → history_in d ≡ Ok h → history_in (lift d) ≡ Ok h
lifted_read d h one read = file_is_read Two (lift d) h (lifted_file d h one (read_is_file d h read))
