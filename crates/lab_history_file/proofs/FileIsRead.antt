-- The history of a file is read from it.
use Rattle.std.proofs.Common.{◌≡◌, [], Ok, refl}
use Rattle.serde_json.specs.Data.{Data}
use Rattle.lab_history_file.{specs.{FileOf.{IsFileIn}, Format.{parts_in, history_in}, declared.file_version.FileVersion.{FileVersion}}, proofs.{TransactionsStand.{stand}, PartsRead.{parts_are_read}}}
use Rattle.lab_history.{specs.{History.{History}, HistoryRules.{Keeps}, WithinLimits.{within_limits}}, proofs.Steps.{step_on, limit_kept}}
use Rattle.lab_history.specs.declared.fault.FileFault.TheVariants as fault
use Rattle.lab_history.specs.declared.fault.Limit.TheVariants as limit

-- what keeps the limits isn't refused
pub kept_within : (h : History) → Keeps h → within_limits h ≡ Ok tt
kept_within h keeps =
    step_on _ (limit_kept 4 _ (fault.OverLimit limit.Tables) keeps.tables)
    (step_on _ (limit_kept 1000 _ (fault.OverLimit limit.Ids) keeps.ids) (limit_kept 200000 _ (fault.OverLimit limit.Entries) keeps.entries))

pub parts_of_file : (version : FileVersion) (d : Data) (h : History) → IsFileIn version d h → parts_in d ≡ Ok h
parts_of_file version d h file = parts_are_read version d h file.holds (stand [] h.txns file.keeps.distinct file.keeps.few_operations) file.keeps.transactions

pub file_is_read : (version : FileVersion) (d : Data) (h : History) → IsFileIn version d h → history_in d ≡ Ok h
file_is_read version d h file = step_on _ (parts_of_file version d h file) (step_on _ (kept_within h file.keeps) refl)
