-- No fault is true of a file: each value of it fits at its place, and it keeps the limits.
use Rattle.std.{proofs.Common.{◌≡◌, ◌≢◌, ℕ, ◌≤◌, ◌==◌, true, map, Some, is_some, option_and_then, slice_get, codes, refl, sym, ap, subst, ◌∙◌, arith, eqb-true}, specs.Prelude.{sum, nat_lt}}
use Rattle.serde_json.specs.{Data.{Data, array}, Find.{as_array, as_object, as_str, at}}
use Rattle.lab_history_file.specs.Entries.{txn_in_number, state_in}
use Rattle.lab_history_file.specs.FaultOf.{all_ops, IsWrong, IsRepeated, IsBadStatement, IsUnsorted, IsOverLimit, IsTrueIn, IsTrueFault}
use Rattle.lab_history_file.specs.Member.{key_parts, count}
use Rattle.lab_history_file.specs.FileVersion.{version_number}
use Rattle.lab_history_file.specs.PlaceShape.{fits, parts_of}
use Rattle.lab_history_file.specs.ValueAt.{txn_at, operation_at, list_at, value_at}
use Rattle.lab_history_file.specs.FileOf.{SpellsIn, IsValue, IsState, IsFileIn, IsFileOf, IsOperation, IsTransaction}
use Rattle.lab_history_file.specs.Keys.{txn_keys, op_keys}
use Rattle.lab_history_file.specs.Format.{at_key, has_keys, outcome_named, number_said, said_by, version_said}
use Rattle.lab_history.specs.{History.{History}, HistoryRules.{operations, named_tables, distinct_tables, named_rows, distinct_rows, op_entries}, declared.{fault.{FileFault.{FileFault}, Limit.{Limit}}, operation.Op.{Op}, path.{ListPlace.{ListPlace}, Path.{Path}}, transaction.Txn.{Txn}}}
use Rattle.lab_history.specs.declared.fault.FileFault.TheVariants as fault
use Rattle.lab_history.specs.declared.fault.Limit.TheVariants as limit
use Rattle.lab_history_file.specs.declared.file_version.FileVersion.{FileVersion, TheVariants.{One, Two}}
use Rattle.lab_history.specs.declared.path.ListPlace.TheVariants as list
use Rattle.lab_history.specs.declared.path.Path.TheVariants as path
use Rattle.lab_history.proofs.Steps.{both_some}
use Rattle.lab_history_file.proofs.OperationsRead.{each_count}
use Rattle.lab_history_file.proofs.FileKeys.{state_read}
use Rattle.lab_history_file.proofs.PlainWrites.{written_there}
use Rattle.lab_history_file.proofs.FaultsOfTransactions.{read_number}
use Rattle.lab_history_file.proofs.FileIsRead.{parts_of_file}
use Rattle.lab_history_file.proofs.GoodLists.{each_at, IsGood, good_pairs, good_view, good_installed, installer_fits}
use Rattle.lab_table.proofs.Tests.{mapped_some}
use Rattle.lab_history_file.proofs.ListedPlaces.{outcome_fits, distinct_at, each_lists, under}

said_number : (version : FileVersion) → said_by (Some (version_number version)) ≡ version
said_number One = refl
said_number Two = refl

-- a version's number is 1 or 2
is_known : (version : FileVersion) (n : ℕ) → version_number version ≡ n → n ≢ 1 → n ≢ 2 → ⊥
is_known One n e one two = one (sym e)
is_known Two n e one two = two (sym e)

module _ (version : FileVersion) (d : Data) (h : History) (file : IsFileIn version d h) where
  transactions_at : at_key (codes "transactions") d ≡ array file.holds.transactions_are.0
  transactions_at = ap (at_key (codes "transactions")) file.holds.tree ∙ file.holds.transactions_are.1

  txn_of : (i : ℕ) (t : Data) → txn_at d i ≡ Some t → (txn : Txn) × (slice_get h.txns i ≡ Some txn) × IsTransaction version t txn
  txn_of i t e = each_at (IsTransaction version) file.holds.transactions_are.0 h.txns file.holds.transactions_are.2 i t (sym (ap (at i) transactions_at) ∙ e)

  op_of : (i k : ℕ) (o : Data) → operation_at d i k ≡ Some o → (op : Op) × IsOperation version o op
  op_of i k o e =
      let found = both_some (txn_at d i) _ o e in
      let is = (txn_of i found.0 found.1).2 in
      let listed : at_key (codes "ops") found.0 ≡ array is.4.0 = ap (at_key (codes "ops")) is.2 ∙ is.4.1 in
      let op = each_at (IsOperation version) is.4.0 _ is.4.2 k o (sym (ap (at k) listed) ∙ found.2) in
      (op.0, op.2)

  good_at : (place : ListPlace) (l : Data) → list_at d place ≡ Some l → IsGood version place l
  good_at list.Initial l e =
      let same : at_key (codes "initial") d ≡ l = cc in
      subst (IsGood version list.Initial) (sym (ap (at_key (codes "initial")) file.holds.tree) ∙ same) (good_pairs version IsValue list.Initial file.holds.initial h.initial refl (λ v x is. ap is_some is) file.holds.initial_is)
  good_at list.End l e =
      let same : at_key (codes "end") d ≡ l = cc in
      subst (IsGood version list.End) (sym (ap (at_key (codes "end")) file.holds.tree) ∙ same) (good_pairs version IsValue list.End file.holds.end h.end_table refl (λ v x is. ap is_some is) file.holds.end_is)
  good_at list.Installed l e =
      let same : at_key (codes "installed") d ≡ l = cc in
      subst (IsGood version list.Installed) (sym (ap (at_key (codes "installed")) file.holds.tree) ∙ same) (good_installed version file.holds.installed h.installed file.holds.installed_is)
  good_at (list.View txn op) l e =
      let found = mapped_some (at_key (codes "view")) (operation_at d txn op) l e in
      let is = op_of txn op found.0 found.1 in
      subst (IsGood version (list.View txn op)) (sym (ap (at_key (codes "view")) is.1.4) ∙ found.2) (good_view version (list.View txn op) is.1.1 is.0.view refl (λ v. refl) is.1.6)
  good_at (list.Rows txn op) l e =
      let found = mapped_some (at_key (codes "rows")) (operation_at d txn op) l e in
      let is = op_of txn op found.0 found.1 in
      subst (IsGood version (list.Rows txn op)) (sym (ap (at_key (codes "rows")) is.1.4) ∙ found.2) (good_pairs version IsValue (list.Rows txn op) is.1.0 is.0.rows refl (λ v x is. ap is_some is) is.1.7)
  good_at (list.Writes txn op) l e =
      let found = mapped_some (at_key (codes "writes")) (operation_at d txn op) l e in
      let is = op_of txn op found.0 found.1 in
      subst (IsGood version (list.Writes txn op)) (sym (ap (at_key (codes "writes")) is.1.4) ∙ found.2) (good_pairs version IsState (list.Writes txn op) is.1.2 is.0.writes refl (λ v x is. written_there (state_in v) ∙ ap is_some (state_read v x is)) is.1.8)

  fits_at : (p : Path) (v : Data) → value_at version d p ≡ Some v → fits version p v ≡ true
  fits_at path.Root v e = let same : d ≡ v = cc in subst (λ u. fits version path.Root u ≡ true) same (ap (fits version path.Root) file.holds.tree)
  fits_at path.Format v e =
      let same : at_key (codes "format") d ≡ v = cc in subst (λ u. fits version path.Format u ≡ true) same (ap (λ u. fits version path.Format (at_key (codes "format") u)) file.holds.tree)
  fits_at path.Version v e =
      let same : at_key (codes "version") d ≡ v = cc in
      subst (λ u. fits version path.Version u ≡ true) same (ap (λ u. fits version path.Version (at_key (codes "version") u)) file.holds.tree ∙ ap is_some file.holds.number_is)
  fits_at (path.List place) v e = (good_at place v e).is_list
  fits_at (path.Member place index) v e =
      let found = both_some (list_at d place) (at index) v e in (good_at place found.0 found.1).sizes index v found.2
  fits_at (path.Part place index part) v e =
      let there = (under (nat_lt part (parts_of version place)) (option_and_then (at part) (value_at version d (path.Member place index))) v e).1 in
      let member = both_some (option_and_then (at index) (list_at d place)) (at part) v there in
      let found = both_some (list_at d place) (at index) member.0 member.1 in
      (good_at place found.0 found.1).parts index part member.0 v found.2 member.2
  fits_at (path.Installer index part place) v e =
      let own = under (part == key_parts version) (option_and_then (at place) (option_and_then (at part) (at index (at_key (codes "installed") d)))) v e in
      let inner = both_some (option_and_then (at part) (at index (at_key (codes "installed") d))) (at place) v own.1 in
      let member = both_some (at index (at_key (codes "installed") d)) (at part) inner.0 inner.1 in
      installer_fits version file.holds.installed h.installed file.holds.installed_is index place member.0 inner.0 v (sym (ap (λ u. at index (at_key (codes "installed") u)) file.holds.tree) ∙ member.1)
      (subst (λ n. at n member.0 ≡ Some inner.0) (eqb-true part (key_parts version) own.0) member.2) inner.2
  fits_at path.Transactions v e =
      let same : at_key (codes "transactions") d ≡ v = cc in subst (λ u. fits version path.Transactions u ≡ true) same (ap (λ u. is_some (as_array u)) transactions_at)
  fits_at (path.Transaction txn) v e = let is = (txn_of txn v e).2 in ap (λ u. has_keys txn_keys (as_object u)) is.2
  fits_at (path.Number txn) v e =
      let found = mapped_some (at_key (codes "no")) (txn_at d txn) v e in
      let is = txn_of txn found.0 found.1 in
      subst (λ u. is_some (txn_in_number u) ≡ true) found.2 (ap is_some (read_number version found.0 is.0 is.2))
  fits_at (path.Outcome txn) v e =
      let found = mapped_some (at_key (codes "outcome")) (txn_at d txn) v e in
      let is = txn_of txn found.0 found.1 in
      subst (λ u. is_some (option_and_then outcome_named (as_str u)) ≡ true) found.2
      (ap (λ u. is_some (option_and_then outcome_named (as_str (at_key (codes "outcome") u)))) is.2.2 ∙ outcome_fits is.0.outcome)
  fits_at (path.Operations txn) v e =
      let found = mapped_some (at_key (codes "ops")) (txn_at d txn) v e in
      let is = (txn_of txn found.0 found.1).2 in
      subst (λ u. is_some (as_array u) ≡ true) found.2 (ap (λ u. is_some (as_array (at_key (codes "ops") u))) is.2 ∙ ap (λ u. is_some (as_array u)) is.4.1)
  fits_at (path.Operation txn op) v e = let is = (op_of txn op v e).1 in ap (λ u. has_keys op_keys (as_object u)) is.4
  fits_at (path.Statement txn op) v e =
      let found = mapped_some (at_key (codes "statement")) (operation_at d txn op) v e in
      let is = (op_of txn op found.0 found.1).1 in
      subst (λ u. is_some (as_str u) ≡ true) found.2 (ap (λ u. is_some (as_str (at_key (codes "statement") u))) is.4)

  not_wrong : (p : Path) → IsWrong version d p → ⊥
  not_wrong p (v, here, wrong) = let fit = fits_at p v here in absurd cc

  -- the value says its version
  number_of : number_said d ≡ Some (version_number version)
  number_of = ap number_said file.holds.tree ∙ file.holds.number_is

  pub says : version_said d ≡ version
  says = ap said_by number_of ∙ said_number version

  known_version : (n : ℕ) → number_said d ≡ Some n → n ≢ 1 → n ≢ 2 → ⊥
  known_version n e = let same : version_number version ≡ n = let there = sym number_of ∙ e in cc in is_known version n same

  not_repeated : (n : ℕ) → IsRepeated d n → ⊥
  not_repeated n (i, j, below, (s, first, one), (t, second, two)) =
      let a = txn_of i s first in
      let b = txn_of j t second in
      let left : a.0.no ≡ n = let own = read_number version s a.0 a.2 in cc in
      let right : b.0.no ≡ n = let own = read_number version t b.0 b.2 in cc in
      distinct_at h.txns i j a.0 b.0 file.keeps.distinct below a.1 b.1 (left ∙ sym right)

  not_bad : (n number : ℕ) → IsBadStatement version d n number → ⊥
  not_bad n number (txn, op, o, text, of, counted, here, spelled, bad) =
      let found = op_of txn op o here in
      let is = found.1 in
      let same : is.3 ≡ text = let there = sym (ap (λ u. as_str (at_key (codes "statement") u)) is.4) ∙ spelled in cc in
      bad found.0.statement (subst (λ t. SpellsIn version t found.0.statement) same is.5)

  not_unsorted : (p : Path) → IsUnsorted version d p → ⊥
  not_unsorted p (place, l, is, here, falls) = (good_at place l here).rises falls

  within : (which : Limit) → IsOverLimit d which → ⊥
  within limit.Bytes over = over
  within limit.Transactions (ts, here, over) =
      let same : file.holds.transactions_are.0 ≡ ts = let there = sym transactions_at ∙ here in cc in
      let many = ap count (sym same) ∙ each_count (IsTransaction version) file.holds.transactions_are.0 h.txns file.holds.transactions_are.2 in
      let few = file.keeps.transactions in
      omega (arith, over, many, few)
  within limit.Operations (ts, here, over) =
      let same : file.holds.transactions_are.0 ≡ ts = let there = sym transactions_at ∙ here in cc in
      let many = ap all_ops (sym same) ∙ each_lists version file.holds.transactions_are.0 h.txns file.holds.transactions_are.2 in
      let few = file.keeps.few_operations in
      omega (arith, over, many, few)
  within limit.Tables (g, read, over) =
      let same : h ≡ g = let found = parts_of_file version d h file in cc in
      let few = subst (λ k. distinct_tables (named_tables k) ≤ 4) same file.keeps.tables in
      omega (arith, over, few)
  within limit.Ids (g, read, over) =
      let same : h ≡ g = let found = parts_of_file version d h file in cc in
      let few = subst (λ k. distinct_rows (named_rows k) ≤ 1000) same file.keeps.ids in
      omega (arith, over, few)
  within limit.Entries (g, read, over) =
      let same : h ≡ g = let found = parts_of_file version d h file in cc in
      let few = subst (λ (k : History). sum (map op_entries (operations k.txns)) ≤ 200000) same file.keeps.entries in
      omega (arith, over, few)
  within limit.Statement over = over

  -- no fault is true of a file
  faultless_in : (f : FileFault) → IsTrueIn version d f → ⊥
  faultless_in fault.NoMemory is = is
  faultless_in fault.NotJson is = is
  faultless_in (fault.WrongFormat p) is = not_wrong p is
  faultless_in (fault.WrongVersion n) is = known_version n is.0 is.1 is.2
  faultless_in (fault.RepeatedTxn n) is = not_repeated n is
  faultless_in (fault.BadStatement n number) is = not_bad n number is
  faultless_in (fault.Unsorted p) is = not_unsorted p is
  faultless_in (fault.OverLimit which) is = within which is

-- no fault is true of a file, which says its version
pub faultless : (d : Data) (h : History) → IsFileOf d h → (f : FileFault) → IsTrueFault d f → ⊥
faultless d h (version, file) f is = faultless_in version d h file f (subst (λ v. IsTrueIn v d f) (says version d h file) is)
