-- What is read of a history file keeps what every history keeps.
use Rattle.std.{proofs.{Common.{◌≡◌, ◌≢◌, ℕ, true, List, [], ◌∷◌, map, Some, Ok, option_and_then, nat_le, nat_lt, ◌&&◌, refl, ap, subst, ◌∙◌, arith}, lemmas.Bool.{and_from}}, specs.List.{list_all}}
use Rattle.std.specs.FinMap as finite
use Rattle.serde_json.specs.{Data.{Data, Items, no_items, item}, Find.{as_number, as_u64}}
use Rattle.lab_table.specs.Row.{Row}
use Rattle.lab_history_file.{specs.{Entries.{op_in_number}, FileOf.{AreEach, IsVersion, IsInstalled, IsOperation, IsTransaction}, Format.{parts_in}, declared.file_version.FileVersion.{FileVersion}}, proofs.{TransactionsStand.{standing}, StatementsPrint.{spelled_prints}, PartsRead.{parts_read}}}
use Rattle.lab_history.specs.Faults.{refused_if}
use Rattle.lab_history.specs.History.{History}
use Rattle.lab_history.specs.HistoryRules.{operations, named_tables, distinct_tables, named_rows, distinct_rows, is_listed, has_installer, OpKeeps, OpsKeep, Keeps}
use Rattle.lab_history.specs.WithinLimits.{within_limits}
use Rattle.lab_history.specs.declared.fault.FileFault.TheVariants as fault
use Rattle.lab_history.specs.declared.fault.Limit.TheVariants as limit
use Rattle.lab_history.specs.declared.{operation.{Op.{Op}, VersionName.{VersionName, TheVariants.{Of}}}, transaction.Txn.{Txn}}
use Rattle.lab_history.proofs.{Steps.{both_ok, both_some, when_found, kept_limit}, KeptOperations.{ops_joined}}

-- an operation's number is from 1 to 10,000
op_number_listed : (d : Data) (txn op : ℕ) → op_in_number d ≡ Some op → is_listed (Of txn op) ≡ true
op_number_listed d txn op e =
    let found = both_some (option_and_then as_u64 (as_number d)) _ op e in
    let tested = when_found (nat_le 1 found.0 && nat_le found.0 10000) found.0 op found.2 in
    subst (λ n. is_listed (Of txn n) ≡ true) tested.1 tested.0

each_listed : (version : FileVersion) (ds : Items) (xs : List (Row × VersionName)) → AreEach (IsVersion version) ds xs → list_all is_listed (map (λ e. e.1) xs) ≡ true
each_listed version no_items [] each = refl
each_listed version no_items (x ∷ xs) each = absurd each
each_listed version (item d ds) [] each = absurd each
each_listed version (item d ds) (x ∷ xs) each =
    let is = each.0 in and_from _ _ (ap is_listed is.7 ∙ op_number_listed is.1 is.2 is.3 is.6) (each_listed version ds xs each.1)

some_installer : (ns : List ℕ) → ns ≢ [] → has_installer ns ≡ true
some_installer [] some = absurd (some refl)
some_installer (n ∷ ns) some = refl

each_installed : (version : FileVersion) (ds : Items) (xs : List (Row × List ℕ)) → AreEach (IsInstalled version) ds xs → list_all has_installer (map (λ e. e.1) xs) ≡ true
each_installed version no_items [] each = refl
each_installed version no_items (x ∷ xs) each = absurd each
each_installed version (item d ds) [] each = absurd each
each_installed version (item d ds) (x ∷ xs) each = and_from _ _ (some_installer x.1 each.0.1) (each_installed version ds xs each.1)

-- an operation of a file keeps what every operation keeps
pub op_keeps : (version : FileVersion) (d : Data) (op : Op) → IsOperation version d op → OpKeeps op
op_keeps version d op is = record { prints = spelled_prints is.3 op.statement is.5.spells; listed = each_listed version is.6.0 (finite.entries op.view) is.6.2 }

ops_keep : (version : FileVersion) (ds : Items) (ops : List Op) → AreEach (IsOperation version) ds ops → OpsKeep ops
ops_keep version no_items [] each = tt
ops_keep version no_items (op ∷ ops) each = absurd each
ops_keep version (item d ds) [] each = absurd each
ops_keep version (item d ds) (op ∷ ops) each = (op_keeps version d op each.0, ops_keep version ds ops each.1)

-- and so do all operations of transactions
pub operations_keep : (version : FileVersion) (ds : Items) (txns : List Txn) → AreEach (IsTransaction version) ds txns → OpsKeep (operations txns)
operations_keep version no_items [] each = tt
operations_keep version no_items (txn ∷ txns) each = absurd each
operations_keep version (item d ds) [] each = absurd each
operations_keep version (item d ds) (txn ∷ txns) each = let is = each.0.4 in ops_joined txn.ops (operations txns) (ops_keep version is.0 txn.ops is.2) (operations_keep version ds txns each.1)

-- what is read, within the limits, keeps what every history keeps
pub read_keeps : (d : Data) (h : History) → parts_in d ≡ Ok h → within_limits h ≡ Ok tt → Keeps h
read_keeps d h e within =
    let found = parts_read d h e in
    let version = found.0 in
    let holds = found.1 in
    let standing = standing [] h.txns found.2 tt (omega arith) in
    let tables = both_ok (refused_if (nat_lt 4 (distinct_tables (named_tables h))) (fault.OverLimit limit.Tables)) _ tt within in
    let ids = both_ok (refused_if (nat_lt 1000 (distinct_rows (named_rows h))) (fault.OverLimit limit.Ids)) _ tt tables.2 in
    record {
      transactions = found.3;
      distinct = standing.0;
      few_operations = standing.1;
      operations_keep = operations_keep version holds.transactions_are.0 h.txns holds.transactions_are.2;
      installers = each_installed version holds.installed_is.0 (finite.entries h.installed) holds.installed_is.2;
      tables = kept_limit 4 _ (fault.OverLimit limit.Tables) tables.0 tables.1;
      ids = kept_limit 1000 _ (fault.OverLimit limit.Ids) ids.0 ids.1;
      entries = kept_limit 200000 _ (fault.OverLimit limit.Entries) tt ids.2;
    }
